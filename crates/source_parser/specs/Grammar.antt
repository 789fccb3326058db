-- The grammar of sources, apart from any way to read it. Each relation says that a thing of the grammar stands at the
-- start of terminals, and what rest is after it; its cases are the alternatives of the grammar:
--   program     = { declaration } { statement }
--   declaration = "var" name ":" range ";"
--               | "array" name "[" number "]" ":" range ";"
--               | "proc" name "(" [ param { "," param } ] ")" { local } "do" { statement } "end"
--   param       = name ":" range
--   local       = "var" name ":" range ";"
--   range       = bound ".." bound
--   bound       = [ "-" ] number
--   statement   = place ":=" expr ";"
--               | "print" expr ";"
--               | "read" place ";"
--               | "if" cond "then" { statement } [ "else" { statement } ] "end"
--               | "for" name ":=" expr "to" expr "do" { statement } "end"
--               | "while" cond "limit" number "do" { statement } "end"
--               | name "(" [ expr { "," expr } ] ")" ";"
--   place       = name | name "[" expr "]"
--   cond        = expr ( "<" | "<=" | ">" | ">=" | "=" | "<>" ) expr
--   expr        = term { ( "+" | "-" ) term }
--   term        = factor { ( "*" | "div" | "mod" ) factor }
--   factor      = "-" factor | number | name | name "[" expr "]" | "(" expr ")"
use Rattle.std.specs.Prelude.{ℕ, suc, ◌+◌, ◌≤◌, ℤ, neg_ℤ, Bool, true, false, List, [], ◌∷◌, if◌then◌else◌}
use Rattle.source_lexer.specs.declared.token.TokenKind.{TokenKind}
use Rattle.source_lexer.specs.declared.token.TokenKind.TheVariants as kind
use Rattle.source_tree.specs.declared.name.Name.{Name}
use Rattle.source_tree.specs.declared.name.Range.{Range}
use Rattle.source_tree.specs.declared.expression.Operator.{Operator}
use Rattle.source_tree.specs.declared.expression.Operator.TheVariants as operator
use Rattle.source_tree.specs.declared.expression.Comparison.{Comparison}
use Rattle.source_tree.specs.declared.expression.Comparison.TheVariants as comparison
use Rattle.source_tree.specs.declared.expression.Condition.{Condition}
use Rattle.source_tree.specs.declared.expression.Expr.{Expr, Number, Name as Variable, Element, Neg, Binary}
use Rattle.source_tree.specs.declared.statement.Place.{Place}
use Rattle.source_tree.specs.declared.statement.Place.TheVariants as place
use Rattle.source_tree.specs.declared.statement.Statement.{Statement, Assign, Print, Read, If, For, While, Call}
use Rattle.source_tree.specs.declared.declaration.Param.{Param}
use Rattle.source_tree.specs.declared.declaration.Local.{Local}
use Rattle.source_tree.specs.declared.declaration.Declaration.{Declaration}
use Rattle.source_tree.specs.declared.declaration.Declaration.TheVariants.{Var, Array, Proc}
use Rattle.source_tree.specs.declared.declaration.Program.{Program}
use Rattle.source_parser.specs.Terminals.{Terminal, identifier, literal, fixed, first_line}

-- ---- expressions
pub data Level : Type 0 where
  factor : Level
  term : Level
  sum : Level

-- the level of what operators of a level join
abbrev pub below : Level → Level
below factor = factor
below term = factor
below sum = term

-- the operators that join expressions of a level, from the left
pub data Joins : Level → TokenKind → Operator → Type 0 where
  plus : Joins sum kind.Plus operator.Add
  minus : Joins sum kind.Minus operator.Sub
  times : Joins term kind.Star operator.Mul
  divided : Joins term kind.Div operator.Div
  remainder : Joins term kind.Mod operator.Mod

-- Operators of one level group from the left, and brackets make no node.
pub data ReadsExpr : Level → List Terminal → Expr → List Terminal → Type 0 where
  number : {value : ℤ} {line : ℕ} {rest : List Terminal}
      → ReadsExpr factor (literal value line ∷ rest) (Number value line) rest
  name : {x : Name} {rest : List Terminal}
      → ReadsExpr factor (identifier x ∷ rest) (Variable x) rest
  element : {x : Name} {line last : ℕ} {terminals rest : List Terminal} {index : Expr}
      → ReadsExpr sum terminals index (fixed kind.RightBracket last ∷ rest)
      → ReadsExpr factor (identifier x ∷ fixed kind.LeftBracket line ∷ terminals) (Element x index) rest
  negated : {line : ℕ} {terminals rest : List Terminal} {operand : Expr}
      → ReadsExpr factor terminals operand rest
      → ReadsExpr factor (fixed kind.Minus line ∷ terminals) (Neg operand line) rest
  bracketed : {line last : ℕ} {terminals rest : List Terminal} {inner : Expr}
      → ReadsExpr sum terminals inner (fixed kind.RightParen last ∷ rest)
      → ReadsExpr factor (fixed kind.LeftParen line ∷ terminals) inner rest
  one_factor : {terminals rest : List Terminal} {e : Expr}
      → ReadsExpr factor terminals e rest
      → ReadsExpr term terminals e rest
  multiplied : {terminals behind rest : List Terminal} {left right : Expr} {sign : TokenKind} {line : ℕ} {op : Operator}
      → ReadsExpr term terminals left (fixed sign line ∷ behind)
      → Joins term sign op
      → ReadsExpr factor behind right rest
      → ReadsExpr term terminals (Binary left op right line) rest
  one_term : {terminals rest : List Terminal} {e : Expr}
      → ReadsExpr term terminals e rest
      → ReadsExpr sum terminals e rest
  added : {terminals behind rest : List Terminal} {left right : Expr} {sign : TokenKind} {line : ℕ} {op : Operator}
      → ReadsExpr sum terminals left (fixed sign line ∷ behind)
      → Joins sum sign op
      → ReadsExpr term behind right rest
      → ReadsExpr sum terminals (Binary left op right line) rest

-- how many terminals are `+`, `-`, `*`, `div`, `mod`, `(` or `[`
abbrev pub is_weighted : TokenKind → Bool
is_weighted kind.Plus = true
is_weighted kind.Minus = true
is_weighted kind.Star = true
is_weighted kind.Div = true
is_weighted kind.Mod = true
is_weighted kind.LeftParen = true
is_weighted kind.LeftBracket = true
is_weighted kind = false

abbrev pub weight : List Terminal → ℕ
weight [] = 0
weight (identifier x ∷ terminals) = weight terminals
weight (literal value line ∷ terminals) = weight terminals
weight (fixed kind line ∷ terminals) = if is_weighted kind then suc (weight terminals) else weight terminals

-- an expression of a level in which so many terminals at most are of these kinds
pub record ReadsWithin (level : Level) (width : ℕ) (terminals : List Terminal) (e : Expr) (rest : List Terminal) : Type 0 where
  pub reads : ReadsExpr level terminals e rest
  pub fits : weight terminals ≤ width + weight rest

-- an expression that isn't inside another
abbrev pub ReadsOutermost : ℕ → List Terminal → Expr → List Terminal → Type 0
ReadsOutermost width = ReadsWithin sum width

-- ---- conditions and places
pub data Compares : TokenKind → Comparison → Type 0 where
  less : Compares kind.Less comparison.Less
  less_equal : Compares kind.LessEqual comparison.LessEqual
  greater : Compares kind.Greater comparison.Greater
  greater_equal : Compares kind.GreaterEqual comparison.GreaterEqual
  equal : Compares kind.Equal comparison.Equal
  not_equal : Compares kind.NotEqual comparison.NotEqual

pub data ReadsCondition (width : ℕ) : List Terminal → Condition → List Terminal → Type 0 where
  condition : {terminals behind rest : List Terminal} {left right : Expr} {sign : TokenKind} {test : Comparison} {line : ℕ}
      → ReadsOutermost width terminals left (fixed sign line ∷ behind)
      → Compares sign test
      → ReadsOutermost width behind right rest
      → ReadsCondition width terminals (record { left = left; comparison = test; right = right; line = first_line terminals }) rest

pub data ReadsPlace (width : ℕ) : List Terminal → Place → List Terminal → Type 0 where
  variable : {x : Name} {rest : List Terminal}
      → ReadsPlace width (identifier x ∷ rest) (place.Name x) rest
  element_of : {x : Name} {line last : ℕ} {terminals rest : List Terminal} {index : Expr}
      → ReadsOutermost width terminals index (fixed kind.RightBracket last ∷ rest)
      → ReadsPlace width (identifier x ∷ fixed kind.LeftBracket line ∷ terminals) (place.Element x index) rest

-- ---- lists
-- things, one after another
pub data ReadsAll {A : Type 0} (Reads : List Terminal → A → List Terminal → Type 0) : List Terminal → List A → List Terminal → Type 0 where
  none : {rest : List Terminal} → ReadsAll Reads rest [] rest
  and_more : {terminals behind rest : List Terminal} {first : A} {more : List A}
      → Reads terminals first behind
      → ReadsAll Reads behind more rest
      → ReadsAll Reads terminals (first ∷ more) rest

-- things with commas between them, and then `)`
pub data ReadsCommas {A : Type 0} (Reads : List Terminal → A → List Terminal → Type 0) : List Terminal → List A → List Terminal → Type 0 where
  last : {terminals rest : List Terminal} {only : A} {line : ℕ}
      → Reads terminals only (fixed kind.RightParen line ∷ rest)
      → ReadsCommas Reads terminals (only ∷ []) rest
  comma : {terminals behind rest : List Terminal} {first : A} {more : List A} {line : ℕ}
      → Reads terminals first (fixed kind.Comma line ∷ behind)
      → ReadsCommas Reads behind more rest
      → ReadsCommas Reads terminals (first ∷ more) rest

-- what stands after `(`: nothing, or things with commas between them, and then `)`
pub data ReadsListed {A : Type 0} (Reads : List Terminal → A → List Terminal → Type 0) : List Terminal → List A → List Terminal → Type 0 where
  nothing : {rest : List Terminal} {line : ℕ}
      → ReadsListed Reads (fixed kind.RightParen line ∷ rest) [] rest
  things : {terminals rest : List Terminal} {all : List A}
      → ReadsCommas Reads terminals all rest
      → ReadsListed Reads terminals all rest

-- ---- statements
-- Statements in which so many of `if`, `for` and `while` at most are open at once. An `else` without statements gives
-- the same tree as none.
mutual
  pub data ReadsStatement (width : ℕ) : ℕ → List Terminal → Statement → List Terminal → Type 0 where
    assign : {depth line last : ℕ} {terminals behind rest : List Terminal} {target : Place} {value : Expr}
        → ReadsPlace width terminals target (fixed kind.Becomes line ∷ behind)
        → ReadsOutermost width behind value (fixed kind.Semicolon last ∷ rest)
        → ReadsStatement width depth terminals (Assign target value (first_line terminals)) rest
    print : {depth line last : ℕ} {terminals rest : List Terminal} {value : Expr}
        → ReadsOutermost width terminals value (fixed kind.Semicolon last ∷ rest)
        → ReadsStatement width depth (fixed kind.Print line ∷ terminals) (Print value line) rest
    read : {depth line last : ℕ} {terminals rest : List Terminal} {target : Place}
        → ReadsPlace width terminals target (fixed kind.Semicolon last ∷ rest)
        → ReadsStatement width depth (fixed kind.Read line ∷ terminals) (Read target line) rest
    if_statement : {depth line l last : ℕ} {terminals behind further rest : List Terminal} {condition : Condition} {first second : List Statement}
        → ReadsCondition width terminals condition (fixed kind.Then l ∷ behind)
        → ReadsStatements width depth behind first further
        → ReadsElse width depth further second (fixed kind.End last ∷ rest)
        → ReadsStatement width (suc depth) (fixed kind.If line ∷ terminals) (If condition first second line) rest
    for_statement : {depth line l m n last : ℕ} {terminals behind further rest : List Terminal} {x : Name} {from to : Expr} {body : List Statement}
        → ReadsOutermost width terminals from (fixed kind.To m ∷ behind)
        → ReadsOutermost width behind to (fixed kind.Do n ∷ further)
        → ReadsStatements width depth further body (fixed kind.End last ∷ rest)
        → ReadsStatement width (suc depth) (fixed kind.For line ∷ identifier x ∷ fixed kind.Becomes l ∷ terminals) (For x from to body line) rest
    while_statement : {depth line l m n last : ℕ} {terminals behind rest : List Terminal} {condition : Condition} {limit : ℤ} {body : List Statement}
        → ReadsCondition width terminals condition (fixed kind.Limit l ∷ literal limit m ∷ fixed kind.Do n ∷ behind)
        → ReadsStatements width depth behind body (fixed kind.End last ∷ rest)
        → ReadsStatement width (suc depth) (fixed kind.While line ∷ terminals) (While condition limit body line) rest
    call : {depth line last : ℕ} {terminals rest : List Terminal} {x : Name} {arguments : List Expr}
        → ReadsListed (ReadsOutermost width) terminals arguments (fixed kind.Semicolon last ∷ rest)
        → ReadsStatement width depth (identifier x ∷ fixed kind.LeftParen line ∷ terminals) (Call x arguments x.line) rest

  pub data ReadsStatements (width : ℕ) : ℕ → List Terminal → List Statement → List Terminal → Type 0 where
    no_statement : {depth : ℕ} {rest : List Terminal} → ReadsStatements width depth rest [] rest
    statements : {depth : ℕ} {terminals behind rest : List Terminal} {first : Statement} {more : List Statement}
        → ReadsStatement width depth terminals first behind
        → ReadsStatements width depth behind more rest
        → ReadsStatements width depth terminals (first ∷ more) rest

  pub data ReadsElse (width : ℕ) : ℕ → List Terminal → List Statement → List Terminal → Type 0 where
    no_else : {depth : ℕ} {rest : List Terminal} → ReadsElse width depth rest [] rest
    other : {depth line : ℕ} {terminals rest : List Terminal} {second : List Statement}
        → ReadsStatements width depth terminals second rest
        → ReadsElse width depth (fixed kind.Else line ∷ terminals) second rest

-- ---- declarations
pub data ReadsBound : List Terminal → ℤ → List Terminal → Type 0 where
  unsigned : {value : ℤ} {line : ℕ} {rest : List Terminal}
      → ReadsBound (literal value line ∷ rest) value rest
  signed : {value : ℤ} {line l : ℕ} {rest : List Terminal}
      → ReadsBound (fixed kind.Minus l ∷ literal value line ∷ rest) (neg_ℤ value) rest

pub data ReadsRange : List Terminal → Range → List Terminal → Type 0 where
  range : {terminals behind rest : List Terminal} {low high : ℤ} {line : ℕ}
      → ReadsBound terminals low (fixed kind.Dots line ∷ behind)
      → ReadsBound behind high rest
      → ReadsRange terminals (record { low = low; high = high }) rest

-- a name with a range
pub data ReadsParam : List Terminal → Param → List Terminal → Type 0 where
  param : {terminals rest : List Terminal} {x : Name} {range : Range} {line : ℕ}
      → ReadsRange terminals range rest
      → ReadsParam (identifier x ∷ fixed kind.Colon line ∷ terminals) (record { name = x; range = range }) rest

pub data ReadsLocal : List Terminal → Local → List Terminal → Type 0 where
  local : {terminals rest : List Terminal} {x : Name} {range : Range} {line last : ℕ}
      → ReadsParam terminals (record { name = x; range = range }) (fixed kind.Semicolon last ∷ rest)
      → ReadsLocal (fixed kind.Var line ∷ terminals) (record { name = x; range = range; line = line }) rest

pub data ReadsDeclaration (depth width : ℕ) : List Terminal → Declaration → List Terminal → Type 0 where
  var : {terminals rest : List Terminal} {x : Name} {range : Range} {line last : ℕ}
      → ReadsParam terminals (record { name = x; range = range }) (fixed kind.Semicolon last ∷ rest)
      → ReadsDeclaration depth width (fixed kind.Var line ∷ terminals) (Var x range line) rest
  array : {terminals rest : List Terminal} {x : Name} {range : Range} {len : ℤ} {line l m n o last : ℕ}
      → ReadsRange terminals range (fixed kind.Semicolon last ∷ rest)
      → ReadsDeclaration depth width
      (fixed kind.Array line ∷ identifier x ∷ fixed kind.LeftBracket l ∷ literal len m ∷ fixed kind.RightBracket n ∷ fixed kind.Colon o ∷ terminals)
      (Array x len range line) rest
  proc : {terminals behind further rest : List Terminal} {x : Name} {params : List Param} {locals : List Local}
      {body : List Statement} {line l m last : ℕ}
      → ReadsListed ReadsParam terminals params behind
      → ReadsAll ReadsLocal behind locals (fixed kind.Do m ∷ further)
      → ReadsStatements width depth further body (fixed kind.End last ∷ rest)
      → ReadsDeclaration depth width (fixed kind.Proc line ∷ identifier x ∷ fixed kind.LeftParen l ∷ terminals) (Proc x params locals body line) rest

-- ---- programs
pub record ReadsProgram (depth width : ℕ) (terminals : List Terminal) (program : Program) (rest : List Terminal) : Type 0 where
  pub behind : List Terminal
  pub declarations : ReadsAll (ReadsDeclaration depth width) terminals program.declarations behind
  pub statements : ReadsStatements width depth behind program.statements rest

-- The terminals, to the last, spell the program. So many of `if`, `for` and `while` at most are open at once, and so many
-- terminals of the kinds that have weight are in one outermost expression.
abbrev pub Spells : ℕ → ℕ → List Terminal → Program → Type 0
Spells depth width terminals program = ReadsProgram depth width terminals program []
