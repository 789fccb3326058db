-- The numbers of a tree are those of the terminals that spell it: none is below 0.
use Rattle.std.proofs.Common.{◌≡◌, ℕ, List, [], ◌∷◌, ◌++◌, map, arith}
use Rattle.std.specs.Prelude.{ℤ, pos, ◌≤ℤ◌}
use Rattle.std.specs.List.{All, flat_map}
use Rattle.std.proofs.lemmas.List.Folds.{flat_map-map}
use Rattle.std.proofs.lemmas.List.Elements.{All-nil, All-cons, All-append}
use Rattle.std.proofs.lemmas.Int.{ints}
use Rattle.source_lexer.specs.declared.token.TokenKind.TheVariants as kind
use Rattle.source_lexer.specs.declared.token.TokenKind.{TokenKind}
use Rattle.source_lexer.specs.declared.token.Token.{Token}
use Rattle.source_tree.specs.Numbers.{numbers_of_node, expr_numbers, condition_numbers, place_numbers, joined, numbers_of_statement_node, statement_numbers, declaration_numbers, program_numbers}
use Rattle.source_tree.specs.declared.name.Name.{Name}
use Rattle.source_tree.specs.declared.expression.Operator.{Operator}
use Rattle.source_tree.specs.declared.expression.Condition.{Condition}
use Rattle.source_tree.specs.declared.expression.Expr.{Expr, Number, Name as Variable, Element, Neg, Binary, fold-roll-Expr, roll-Expr}
use Rattle.source_tree.specs.declared.expression.Expr.TheOpen as expr
use Rattle.source_tree.specs.declared.statement.Place.{Place}
use Rattle.source_tree.specs.declared.statement.Statement.{Statement, Assign, Print, Read, If, For, While, Call, fold-roll-Statement, roll-Statement}
use Rattle.source_tree.specs.declared.statement.Statement.TheOpen as statement
use Rattle.source_tree.specs.declared.declaration.Declaration.{Declaration}
use Rattle.source_tree.specs.declared.declaration.Program.{Program}
use Rattle.source_parser.specs.Terminals.{Terminal, identifier, literal, fixed, terminal_by, terminals_of}
use Rattle.source_parser.specs.Grammar as grammar
use Rattle.source_parser.specs.Grammar.{Level, ReadsExpr, ReadsOutermost, ReadsCondition, ReadsPlace, ReadsAll, ReadsCommas, ReadsListed, ReadsStatement, ReadsStatements, ReadsElse, ReadsDeclaration, ReadsProgram}

-- a number of a source is 0 or more
abbrev pub IsNatural : ℤ → Type 0
IsNatural n = pos 0 ≤ℤ n

abbrev pub HasNaturals : List Terminal → Type 0
HasNaturals [] = Unit {0}
HasNaturals (identifier x ∷ terminals) = HasNaturals terminals
HasNaturals (literal value line ∷ terminals) = IsNatural value × HasNaturals terminals
HasNaturals (fixed kind line ∷ terminals) = HasNaturals terminals

-- the numbers of what is read, and of what is left
record Naturals (numbers : List ℤ) (rest : List Terminal) : Type 0 where
  all : All IsNatural numbers
  left : HasNaturals rest

none : (rest : List Terminal) → HasNaturals rest → Naturals [] rest
none rest h = record { all = All-nil IsNatural; left = h }

one : (value : ℤ) (rest : List Terminal) → IsNatural value → HasNaturals rest → Naturals (value ∷ []) rest
one value rest natural h = record { all = All-cons IsNatural value [] natural (All-nil IsNatural); left = h }

-- what is read after the first part
and_then : {a b : List ℤ} {rest further : List Terminal} → Naturals a rest → (HasNaturals rest → Naturals b further) → Naturals (a ++ b) further
and_then {a = a} {b = b} first next =
    let second = next first.left in record { all = All-append IsNatural a b first.all second.all; left = second.left }

-- past a keyword or a symbol
past : {numbers : List ℤ} {kind : TokenKind} {line : ℕ} {rest : List Terminal} → Naturals numbers (fixed kind line ∷ rest) → Naturals numbers rest
past h = record { all = h.all; left = h.left }

-- ---- expressions
numbers-Number : (value : ℤ) (line : ℕ) → expr_numbers (Number value line) ≡ value ∷ []
unfolding roll-Expr denote.Hole.Carrier.roll
numbers-Number value line = fold-roll-Expr (List ℤ) numbers_of_node (expr.Number value line)

numbers-Name : (name : Name) → expr_numbers (Variable name) ≡ []
unfolding roll-Expr denote.Hole.Carrier.roll
numbers-Name name = fold-roll-Expr (List ℤ) numbers_of_node (expr.Name name)

numbers-Element : (name : Name) (index : Expr) → expr_numbers (Element name index) ≡ expr_numbers index
unfolding roll-Expr denote.Hole.Carrier.roll
numbers-Element name index = fold-roll-Expr (List ℤ) numbers_of_node (expr.Element name index)

numbers-Neg : (operand : Expr) (line : ℕ) → expr_numbers (Neg operand line) ≡ expr_numbers operand
unfolding roll-Expr denote.Hole.Carrier.roll
numbers-Neg operand line = fold-roll-Expr (List ℤ) numbers_of_node (expr.Neg operand line)

numbers-Binary : (left : Expr) (operator : Operator) (right : Expr) (line : ℕ)
    → expr_numbers (Binary left operator right line) ≡ expr_numbers left ++ expr_numbers right
unfolding roll-Expr denote.Hole.Carrier.roll
numbers-Binary left operator right line = fold-roll-Expr (List ℤ) numbers_of_node (expr.Binary left operator right line)

of_expr : {level : Level} {terminals rest : List Terminal} {e : Expr} → ReadsExpr level terminals e rest → HasNaturals terminals
    → Naturals (expr_numbers e) rest
of_expr (grammar.number {value = value} {line = line} {rest = rest}) h = rw (numbers-Number value line) (one value rest h.0 h.1)
of_expr (grammar.name {x = x} {rest = rest}) h = rw (numbers-Name x) (none rest h)
of_expr (grammar.element {x = x} {last = last} {rest = rest} {index = index} r) h = rw (numbers-Element x index) (past (of_expr r h))
of_expr (grammar.negated {line = line} {operand = operand} r) h = rw (numbers-Neg operand line) (of_expr r h)
of_expr (grammar.bracketed r) h = past (of_expr r h)
of_expr (grammar.one_factor r) h = of_expr r h
of_expr (grammar.multiplied {left = left} {right = right} {line = line} {op = op} l joins r) h =
    rw (numbers-Binary left op right line) (and_then (past (of_expr l h)) (of_expr r))
of_expr (grammar.one_term r) h = of_expr r h
of_expr (grammar.added {left = left} {right = right} {line = line} {op = op} l joins r) h =
    rw (numbers-Binary left op right line) (and_then (past (of_expr l h)) (of_expr r))

of_condition : {width : ℕ} {terminals rest : List Terminal} {found : Condition} → ReadsCondition width terminals found rest → HasNaturals terminals
    → Naturals (condition_numbers found) rest
of_condition (grammar.condition l compares r) h = and_then (past (of_expr l.reads h)) (of_expr r.reads)

of_place : {width : ℕ} {terminals rest : List Terminal} {found : Place} → ReadsPlace width terminals found rest → HasNaturals terminals
    → Naturals (place_numbers found) rest
of_place (grammar.variable {rest = rest}) h = none rest h
of_place (grammar.element_of r) h = past (of_expr r.reads h)

-- ---- lists
of_commas : {A : Type 0} {Reads : List Terminal → A → List Terminal → Type 0} (numbers : A → List ℤ) {terminals rest : List Terminal} {all : List A}
    → ((from to : List Terminal) (found : A) → Reads from found to → HasNaturals from → Naturals (numbers found) to)
    → ReadsCommas Reads terminals all rest → HasNaturals terminals → Naturals (flat_map numbers all) rest
of_commas numbers {terminals = terminals} each (grammar.last {rest = rest} {only = only} {line = line} r) h =
    and_then (past (each terminals (fixed kind.RightParen line ∷ rest) only r h)) (none rest)
of_commas numbers {terminals = terminals} each (grammar.comma {behind = behind} {first = first} {line = line} r more) h =
    and_then (past (each terminals (fixed kind.Comma line ∷ behind) first r h)) (of_commas numbers each more)

of_listed : {A : Type 0} {Reads : List Terminal → A → List Terminal → Type 0} (numbers : A → List ℤ) {terminals rest : List Terminal} {all : List A}
    → ((from to : List Terminal) (found : A) → Reads from found to → HasNaturals from → Naturals (numbers found) to)
    → ReadsListed Reads terminals all rest → HasNaturals terminals → Naturals (flat_map numbers all) rest
of_listed numbers each (grammar.nothing {rest = rest}) h = none rest h
of_listed numbers each (grammar.things r) h = of_commas numbers each r h

-- ---- statements
numbers-Assign : (place : Place) (value : Expr) (line : ℕ) → statement_numbers (Assign place value line) ≡ place_numbers place ++ expr_numbers value
unfolding roll-Statement denote.Hole.Carrier.roll
numbers-Assign place value line = fold-roll-Statement (List ℤ) numbers_of_statement_node (statement.Assign place value line)

numbers-Print : (value : Expr) (line : ℕ) → statement_numbers (Print value line) ≡ expr_numbers value
unfolding roll-Statement denote.Hole.Carrier.roll
numbers-Print value line = fold-roll-Statement (List ℤ) numbers_of_statement_node (statement.Print value line)

numbers-Read : (place : Place) (line : ℕ) → statement_numbers (Read place line) ≡ place_numbers place
unfolding roll-Statement denote.Hole.Carrier.roll
numbers-Read place line = fold-roll-Statement (List ℤ) numbers_of_statement_node (statement.Read place line)

numbers-If : (condition : Condition) (first second : List Statement) (line : ℕ)
    → statement_numbers (If condition first second line) ≡ condition_numbers condition ++ joined (map statement_numbers first) ++ joined (map statement_numbers second)
unfolding roll-Statement denote.Hole.Carrier.roll
numbers-If condition first second line = fold-roll-Statement (List ℤ) numbers_of_statement_node (statement.If condition first second line)

numbers-For : (name : Name) (first last : Expr) (body : List Statement) (line : ℕ)
    → statement_numbers (For name first last body line) ≡ expr_numbers first ++ expr_numbers last ++ joined (map statement_numbers body)
unfolding roll-Statement denote.Hole.Carrier.roll
numbers-For name first last body line = fold-roll-Statement (List ℤ) numbers_of_statement_node (statement.For name first last body line)

numbers-While : (condition : Condition) (limit : ℤ) (body : List Statement) (line : ℕ)
    → statement_numbers (While condition limit body line) ≡ condition_numbers condition ++ limit ∷ joined (map statement_numbers body)
unfolding roll-Statement denote.Hole.Carrier.roll
numbers-While condition limit body line = fold-roll-Statement (List ℤ) numbers_of_statement_node (statement.While condition limit body line)

numbers-Call : (name : Name) (arguments : List Expr) (line : ℕ) → statement_numbers (Call name arguments line) ≡ flat_map expr_numbers arguments
unfolding roll-Statement denote.Hole.Carrier.roll
numbers-Call name arguments line = fold-roll-Statement (List ℤ) numbers_of_statement_node (statement.Call name arguments line)

of_argument : {width : ℕ} (from to : List Terminal) (found : Expr) → ReadsOutermost width from found to → HasNaturals from → Naturals (expr_numbers found) to
of_argument from to found r h = of_expr r.reads h

mutual
  of_statement : {width depth : ℕ} {terminals rest : List Terminal} {found : Statement} → ReadsStatement width depth terminals found rest
      → HasNaturals terminals → Naturals (statement_numbers found) rest
  of_statement (grammar.assign {target = target} {value = value} p r) h =
      rw (numbers-Assign target value _) (and_then (past (of_place p h)) (λ more. past (of_expr r.reads more)))
  of_statement (grammar.print {line = line} {value = value} r) h = rw (numbers-Print value line) (past (of_expr r.reads h))
  of_statement (grammar.read {line = line} {target = target} p) h = rw (numbers-Read target line) (past (of_place p h))
  of_statement (grammar.if_statement {line = line} {condition = condition} {first = first} {second = second} c r s) h =
      rw (numbers-If condition first second line)
      (and_then (and_then (past (of_condition c h)) (of_statements r)) (λ more. past (of_else s more)))
  of_statement (grammar.for_statement {line = line} {x = x} {from = from} {to = to} {body = body} l r s) h =
      rw (numbers-For x from to body line)
      (and_then (and_then (past (of_expr l.reads h)) (λ more. past (of_expr r.reads more))) (λ more. past (of_statements s more)))
  of_statement (grammar.while_statement {line = line} {behind = behind} {condition = condition} {limit = limit} {body = body} c s) h =
      rw (numbers-While condition limit body line)
      (and_then (past (of_condition c h)) (λ more. and_then (one limit behind more.0 more.1) (λ rest. past (of_statements s rest))))
  of_statement (grammar.call {x = x} {arguments = arguments} r) h =
      rw (numbers-Call x arguments x.line) (past (of_listed expr_numbers of_argument r h))

  of_statements : {width depth : ℕ} {terminals rest : List Terminal} {found : List Statement} → ReadsStatements width depth terminals found rest
      → HasNaturals terminals → Naturals (joined (map statement_numbers found)) rest
  of_statements (grammar.no_statement {rest = rest}) h = none rest h
  of_statements (grammar.statements r s) h = and_then (of_statement r h) (of_statements s)

  of_else : {width depth : ℕ} {terminals rest : List Terminal} {found : List Statement} → ReadsElse width depth terminals found rest
      → HasNaturals terminals → Naturals (joined (map statement_numbers found)) rest
  of_else (grammar.no_else {rest = rest}) h = none rest h
  of_else (grammar.other r) h = of_statements r h

-- ---- declarations
after_bound : {terminals rest : List Terminal} {value : ℤ} → grammar.ReadsBound terminals value rest → HasNaturals terminals → HasNaturals rest
after_bound grammar.unsigned h = h.1
after_bound grammar.signed h = h.1

after_range : {terminals rest : List Terminal} {found : _} → grammar.ReadsRange terminals found rest → HasNaturals terminals → HasNaturals rest
after_range (grammar.range low high) h = after_bound high (after_bound low h)

after_param : {terminals rest : List Terminal} {found : _} → grammar.ReadsParam terminals found rest → HasNaturals terminals → HasNaturals rest
after_param (grammar.param r) h = after_range r h

after_local : {terminals rest : List Terminal} {found : _} → grammar.ReadsLocal terminals found rest → HasNaturals terminals → HasNaturals rest
after_local (grammar.local r) h = after_param r h

after_params : {terminals rest : List Terminal} {all : _} → ReadsCommas grammar.ReadsParam terminals all rest → HasNaturals terminals → HasNaturals rest
after_params (grammar.last r) h = after_param r h
after_params (grammar.comma r more) h = after_params more (after_param r h)

after_listed : {terminals rest : List Terminal} {all : _} → ReadsListed grammar.ReadsParam terminals all rest → HasNaturals terminals → HasNaturals rest
after_listed grammar.nothing h = h
after_listed (grammar.things r) h = after_params r h

after_locals : {terminals rest : List Terminal} {all : _} → ReadsAll grammar.ReadsLocal terminals all rest → HasNaturals terminals → HasNaturals rest
after_locals grammar.none h = h
after_locals (grammar.and_more r more) h = after_locals more (after_local r h)

joined-flat_map : (statements : List Statement) → joined (map statement_numbers statements) ≡ flat_map statement_numbers statements
joined-flat_map statements = flat_map-map (λ (part : List ℤ). part) statement_numbers statements

body_numbers : {width depth : ℕ} {terminals rest : List Terminal} {found : List Statement} → ReadsStatements width depth terminals found rest
    → HasNaturals terminals → Naturals (flat_map statement_numbers found) rest
body_numbers {found = found} r h = rw (← joined-flat_map found) (of_statements r h)

of_declaration : {depth width : ℕ} {terminals rest : List Terminal} {found : Declaration} → ReadsDeclaration depth width terminals found rest
    → HasNaturals terminals → Naturals (declaration_numbers found) rest
of_declaration (grammar.var {rest = rest} r) h = none rest (after_param r h)
of_declaration (grammar.array {rest = rest} {len = len} r) h = one len rest h.0 (after_range r h.1)
of_declaration (grammar.proc params locals body) h = past (body_numbers body (after_locals locals (after_listed params h)))

of_declarations : {depth width : ℕ} {terminals rest : List Terminal} {all : List Declaration} → ReadsAll (ReadsDeclaration depth width) terminals all rest
    → HasNaturals terminals → Naturals (flat_map declaration_numbers all) rest
of_declarations (grammar.none {rest = rest}) h = none rest h
of_declarations (grammar.and_more r more) h = and_then (of_declaration r h) (of_declarations more)

of_program : {depth width : ℕ} {terminals rest : List Terminal} {program : Program} → ReadsProgram depth width terminals program rest
    → HasNaturals terminals → All IsNatural (program_numbers program)
of_program r h = (and_then (of_declarations r.declarations h) (body_numbers r.statements)).all

-- ---- the terminals of tokens
natural_token : (kind : TokenKind) (bytes : List ℕ) (line : ℕ) (rest : List Terminal) → HasNaturals rest → HasNaturals (terminal_by kind bytes line ∷ rest)
natural_token kind.Name bytes line rest h = h
natural_token kind.Number bytes line rest h = (omega (arith, ints), h)
natural_token kind bytes line rest h = h

natural_tokens : (text : List ℕ) (tokens : List Token) → HasNaturals (terminals_of text tokens)
natural_tokens text [] = tt
natural_tokens text (token ∷ tokens) = natural_token token.kind _ token.line (terminals_of text tokens) (natural_tokens text tokens)

pub spelled_numbers : (text : List ℕ) (tokens : List Token) (depth width : ℕ) (program : Program)
    → grammar.Spells depth width (terminals_of text tokens) program → All IsNatural (program_numbers program)
spelled_numbers text tokens depth width program spelled = of_program spelled (natural_tokens text tokens)
