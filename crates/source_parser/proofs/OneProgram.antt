-- From the same terminals one program is read.
use Rattle.std.proofs.Common.{◌≡◌, ℕ, ℤ, suc, List, [], ◌∷◌, refl, ap, sym, subst, ◌∙◌}
use Rattle.source_lexer.specs.declared.token.TokenKind.{TokenKind}
use Rattle.source_lexer.specs.declared.token.TokenKind.TheVariants as kind
use Rattle.source_tree.specs.declared.name.Name.{Name}
use Rattle.source_tree.specs.declared.name.Range.{Range}
use Rattle.source_tree.specs.declared.expression.Comparison.{Comparison}
use Rattle.source_tree.specs.declared.expression.Comparison.TheVariants as comparison
use Rattle.source_tree.specs.declared.expression.Condition.{Condition}
use Rattle.source_tree.specs.declared.expression.Expr.{Expr}
use Rattle.source_tree.specs.declared.statement.Place.{Place}
use Rattle.source_tree.specs.declared.statement.Place.TheVariants as place
use Rattle.source_tree.specs.declared.statement.Statement.{Statement, Print, Read, Call}
use Rattle.source_tree.specs.declared.declaration.Param.{Param}
use Rattle.source_tree.specs.declared.declaration.Local.{Local}
use Rattle.source_tree.specs.declared.declaration.Declaration.{Declaration}
use Rattle.source_tree.specs.declared.declaration.Declaration.TheVariants.{Var}
use Rattle.source_tree.specs.declared.declaration.Program.{Program}
use Rattle.source_parser.specs.Terminals.{Terminal, identifier, fixed}
use Rattle.source_parser.specs.Grammar as g
use Rattle.source_parser.specs.Grammar.{Compares, less, less_equal, greater, greater_equal, equal, not_equal, ReadsExpr, ReadsOutermost, ReadsCondition, condition, ReadsPlace, variable, element_of}
use Rattle.source_parser.specs.Grammar.{ReadsAll, none, and_more, ReadsCommas, last, comma, ReadsListed, nothing, things, ReadsBound, unsigned, signed, ReadsRange, ReadsParam, param, ReadsLocal}
use Rattle.source_parser.specs.Grammar.{ReadsStatement, assign, print, read, if_statement, for_statement, while_statement, call, ReadsStatements, no_statement, statements, ReadsElse, no_else, other, ReadsDeclaration, var, array, proc, Spells}
use Rattle.source_parser.proofs.OneExpression.{Ends, one_expression}

-- from the same terminals one thing is read, where what follows it is of this sort
abbrev IsOne : {A : Type 0} → (List Terminal → A → List Terminal → Type 0) → (List Terminal → Type 0) → Type 0
IsOne Reads Follows = (terminals r s : List Terminal) (a b : _) → Reads terminals a r → Reads terminals b s → Follows r → Follows s → (a ≡ b) × (r ≡ s)

-- ---- expressions, conditions and places
one_outermost : {width : ℕ} {terminals r s : List Terminal} {a b : Expr} → ReadsOutermost width terminals a r → ReadsOutermost width terminals b s → Ends g.sum r → Ends g.sum s → (a ≡ b) × (r ≡ s)
one_outermost first second h k = one_expression first.reads second.reads h k

compares_ends : {sign : TokenKind} {test : Comparison} → Compares sign test → (line : ℕ) (rest : List Terminal) → Ends g.sum (fixed sign line ∷ rest)
compares_ends less line rest = refl
compares_ends less_equal line rest = refl
compares_ends greater line rest = refl
compares_ends greater_equal line rest = refl
compares_ends equal line rest = refl
compares_ends not_equal line rest = refl

test_of : TokenKind → Comparison
test_of kind.Less = comparison.Less
test_of kind.LessEqual = comparison.LessEqual
test_of kind.Greater = comparison.Greater
test_of kind.GreaterEqual = comparison.GreaterEqual
test_of kind.Equal = comparison.Equal
test_of kind = comparison.NotEqual

compares_test : {sign : TokenKind} {test : Comparison} → Compares sign test → test ≡ test_of sign
unfolding test_of
compares_test less = refl
compares_test less_equal = refl
compares_test greater = refl
compares_test greater_equal = refl
compares_test equal = refl
compares_test not_equal = refl

one_condition : {width : ℕ} {terminals r s : List Terminal} {a b : Condition} → ReadsCondition width terminals a r → ReadsCondition width terminals b s → Ends g.sum r → Ends g.sum s → (a ≡ b) × (r ≡ s)
one_condition {width} (condition {terminals = terminals} {behind = behind} {left = left} {right = right} {sign = sign} {test = test} {line = line} first compares second)
    (condition {behind = behind'} {rest = rest'} {left = left'} {right = right'} {sign = sign'} {test = test'} {line = line'} first' compares' second') h k =
    let same = one_outermost first first' (compares_ends compares line behind) (compares_ends compares' line' behind') in
    let ends = same.1 in
    let same_behind : behind' ≡ behind = cc in
    let same_sign : sign ≡ sign' = cc in
    let same_test : test ≡ test' = compares_test compares ∙ ap test_of same_sign ∙ sym (compares_test compares') in
    let rest_same = one_outermost second (subst (λ (ts : List Terminal). ReadsOutermost width ts right' rest') same_behind second') h k in
    let same_left = same.0 in
    let same_right = rest_same.0 in
    (cc, rest_same.1)

-- what isn't `[`
abbrev NoBracket : List Terminal → Type 0
NoBracket (fixed kind.LeftBracket line ∷ rest) = ⊥
NoBracket terminals = Unit {0}

one_place : {width : ℕ} {terminals r s : List Terminal} {a b : Place} → ReadsPlace width terminals a r → ReadsPlace width terminals b s → NoBracket r → NoBracket s → (a ≡ b) × (r ≡ s)
one_place variable variable h k = (refl, refl)
one_place variable (element_of index) h k = absurd h
one_place (element_of index) variable h k = absurd k
one_place (element_of {x = x} index) (element_of index') h k =
    let same = one_outermost index index' refl refl in
    let ends = same.1 in
    (ap (place.Element x) same.0, cc)

-- ---- lists
module _ {A : Type 0} (Reads : List Terminal → A → List Terminal → Type 0) (Follows : List Terminal → Type 0) where
  one_commas : IsOne Reads Follows → ((line : ℕ) (rest : List Terminal) → Follows (fixed kind.RightParen line ∷ rest)) → ((line : ℕ) (rest : List Terminal) → Follows (fixed kind.Comma line ∷ rest))
      → {terminals r s : List Terminal} {a b : List A} → ReadsCommas Reads terminals a r → ReadsCommas Reads terminals b s → (a ≡ b) × (r ≡ s)
  one_commas one close sign (last first) (last second) =
      let same = one _ _ _ _ _ first second (close _ _) (close _ _) in
      let ends = same.1 in
      (ap (λ (x : A). x ∷ []) same.0, cc)
  one_commas one close sign (last first) (comma second more) = let same = one _ _ _ _ _ first second (close _ _) (sign _ _) in let ends = same.1 in absurd cc
  one_commas one close sign (comma first more) (last second) = let same = one _ _ _ _ _ first second (sign _ _) (close _ _) in let ends = same.1 in absurd cc
  one_commas one close sign (comma {behind = behind} {first = x} {more = xs} first more) (comma {behind = behind'} {rest = rest'} {first = y} {more = ys} second more') =
      let same = one _ _ _ _ _ first second (sign _ _) (sign _ _) in
      let ends = same.1 in
      let same_behind : behind' ≡ behind = cc in
      let others = one_commas one close sign more (subst (λ (ts : List Terminal). ReadsCommas Reads ts ys rest') same_behind more') in
      let same_first = same.0 in
      let same_more = others.0 in
      (cc, others.1)

  first_reads : {terminals rest : List Terminal} {all : List A} → ReadsCommas Reads terminals all rest → (first : A) × (behind : List Terminal) × Reads terminals first behind
  first_reads (last h) = (_, _, h)
  first_reads (comma h more) = (_, _, h)

  one_listed : IsOne Reads Follows → ((line : ℕ) (rest : List Terminal) → Follows (fixed kind.RightParen line ∷ rest)) → ((line : ℕ) (rest : List Terminal) → Follows (fixed kind.Comma line ∷ rest))
      → ((line : ℕ) (terminals rest : List Terminal) (x : A) → Reads (fixed kind.RightParen line ∷ terminals) x rest → ⊥)
      → {terminals r s : List Terminal} {a b : List A} → ReadsListed Reads terminals a r → ReadsListed Reads terminals b s → (a ≡ b) × (r ≡ s)
  one_listed one close sign begins nothing nothing = (refl, refl)
  one_listed one close sign begins nothing (things second) = let first = first_reads second in absurd (begins _ _ _ _ first.2)
  one_listed one close sign begins (things first) nothing = let second = first_reads first in absurd (begins _ _ _ _ second.2)
  one_listed one close sign begins (things first) (things second) = one_commas one close sign first second

  one_all : IsOne Reads Follows → ((terminals rest : List Terminal) (x : A) → Reads terminals x rest → Follows rest) → (Ends' : List Terminal → Type 0)
      → ((terminals rest : List Terminal) (x : A) → Reads terminals x rest → Ends' terminals → ⊥)
      → {terminals r s : List Terminal} {a b : List A} → ReadsAll Reads terminals a r → ReadsAll Reads terminals b s → Ends' r → Ends' s → (a ≡ b) × (r ≡ s)
  one_all one follows Ends' begins none none h k = (refl, refl)
  one_all one follows Ends' begins none (and_more second more) h k = absurd (begins _ _ _ second h)
  one_all one follows Ends' begins (and_more first more) none h k = absurd (begins _ _ _ first k)
  one_all one follows Ends' begins (and_more {behind = behind} first more) (and_more {behind = behind'} {rest = rest'} {more = ys} second more') h k =
      let same = one _ _ _ _ _ first second (follows _ _ _ first) (follows _ _ _ second) in
      let others = one_all one follows Ends' begins more (subst (λ (ts : List Terminal). ReadsAll Reads ts ys rest') (sym same.1) more') h k in
      let same_first = same.0 in
      let same_more = others.0 in
      (cc, others.1)

abbrev Anything : List Terminal → Type 0
Anything terminals = Unit {0}

expr_no_paren : {level : g.Level} {line : ℕ} {terminals rest : List Terminal} {e : Expr} → ReadsExpr level (fixed kind.RightParen line ∷ terminals) e rest → ⊥
expr_no_paren (g.one_factor part) = expr_no_paren part
expr_no_paren (g.multiplied left joins right) = expr_no_paren left
expr_no_paren (g.one_term part) = expr_no_paren part
expr_no_paren (g.added left joins right) = expr_no_paren left

one_arguments : {width : ℕ} {terminals r s : List Terminal} {a b : List Expr} → ReadsListed (ReadsOutermost width) terminals a r → ReadsListed (ReadsOutermost width) terminals b s → (a ≡ b) × (r ≡ s)
one_arguments {width} first second =
    one_listed (ReadsOutermost width) (Ends g.sum) (λ terminals r s a b. one_outermost) (λ line rest. refl) (λ line rest. refl) (λ line terminals rest x h. expr_no_paren h.reads) first second

-- ---- statements
-- neither `else`, nor a statement
abbrev Closes : List Terminal → Type 0
Closes [] = Unit {0}
Closes (fixed kind.End line ∷ rest) = Unit {0}
Closes (fixed kind.Else line ∷ rest) = Unit {0}
Closes terminals = ⊥

place_begins : {width : ℕ} {terminals rest : List Terminal} {p : Place} → ReadsPlace width terminals p rest → (x : Name) × (behind : List Terminal) × (terminals ≡ identifier x ∷ behind)
place_begins variable = (_, _, refl)
place_begins (element_of index) = (_, _, refl)

paren_place : {width line l : ℕ} {x : Name} {terminals all rest behind : List Terminal} {p : Place}
    → ReadsPlace width all p rest → all ≡ identifier x ∷ fixed kind.LeftParen line ∷ terminals → rest ≡ fixed kind.Becomes l ∷ behind → ⊥
paren_place variable same ends = absurd cc
paren_place (element_of index) same ends = absurd cc

statement_begins : {width depth : ℕ} {terminals rest : List Terminal} {x : Statement} → ReadsStatement width depth terminals x rest → Closes terminals → ⊥
statement_begins (assign variable value) h = absurd h
statement_begins (assign (element_of index) value) h = absurd h
statement_begins (print value) h = absurd h
statement_begins (read target) h = absurd h
statement_begins (if_statement test first second) h = absurd h
statement_begins (for_statement from to body) h = absurd h
statement_begins (while_statement test body) h = absurd h
statement_begins (call arguments) h = absurd h

else_closes : {width depth line : ℕ} {terminals rest : List Terminal} {xs : List Statement} → ReadsElse width depth terminals xs (fixed kind.End line ∷ rest) → Closes terminals
else_closes no_else = tt
else_closes (other second) = tt

mutual
  one_statement : {width depth : ℕ} {terminals r s : List Terminal} {a b : Statement} → ReadsStatement width depth terminals a r → ReadsStatement width depth terminals b s → (a ≡ b) × (r ≡ s)
  one_statement {width} (assign {terminals = terminals} {behind = behind} {target = target} {value = value} place first) (assign {last = last'} {behind = behind'} {rest = rest'} {target = target'} {value = value'} place' second) =
      let same = one_place place place' tt tt in
      let ends = same.1 in
      let same_behind : behind' ≡ behind = cc in
      let values = one_outermost first (subst (λ (ts : List Terminal). ReadsOutermost width ts value' (fixed kind.Semicolon last' ∷ rest')) same_behind second) refl refl in
      let last = values.1 in
      let same_value = values.0 in
      let same_target = same.0 in
      (cc, cc)
  one_statement (assign place value) (print twin) = let begins = place_begins place in let same = begins.2 in absurd cc
  one_statement (assign place value) (read twin) = let begins = place_begins place in let same = begins.2 in absurd cc
  one_statement (assign place value) (if_statement test first second) = let begins = place_begins place in let same = begins.2 in absurd cc
  one_statement (assign place value) (for_statement from to body) = let begins = place_begins place in let same = begins.2 in absurd cc
  one_statement (assign place value) (while_statement test body) = let begins = place_begins place in let same = begins.2 in absurd cc
  one_statement (assign place value) (call arguments) = absurd (paren_place place refl refl)
  one_statement (print value) (assign place twin) = let begins = place_begins place in let same = begins.2 in absurd cc
  one_statement (read value) (assign place twin) = let begins = place_begins place in let same = begins.2 in absurd cc
  one_statement (if_statement test first second) (assign place twin) = let begins = place_begins place in let same = begins.2 in absurd cc
  one_statement (for_statement from to body) (assign place twin) = let begins = place_begins place in let same = begins.2 in absurd cc
  one_statement (while_statement test body) (assign place twin) = let begins = place_begins place in let same = begins.2 in absurd cc
  one_statement (call arguments) (assign place twin) = absurd (paren_place place refl refl)
  one_statement (print {line = line} value) (print twin) =
      let same = one_outermost value twin refl refl in
      let ends = same.1 in
      (ap (λ (e : Expr). Print e line) same.0, cc)
  one_statement (read {line = line} place) (read twin) =
      let same = one_place place twin tt tt in
      let ends = same.1 in
      (ap (λ (p : Place). Read p line) same.0, cc)
  one_statement {width = width} {depth = suc depth} (if_statement {behind = behind} {further = further} {condition = c} {first = xs} {second = ys} test first second)
      (if_statement {last = last'} {behind = behind'} {further = further'} {rest = rest'} {condition = c'} {first = xs'} {second = ys'} test' first' second') =
      let tests = one_condition test test' refl refl in
      let then = tests.1 in
      let same_behind : behind' ≡ behind = cc in
      let firsts = one_list first (subst (λ (ts : List Terminal). ReadsStatements width depth ts xs' further') same_behind first') (else_closes second) (else_closes second') in
      let same_further = firsts.1 in
      let seconds = one_else second (subst (λ (ts : List Terminal). ReadsElse width depth ts ys' (fixed kind.End last' ∷ rest')) (sym same_further) second') in
      let end = seconds.1 in
      let same_test = tests.0 in
      let same_first = firsts.0 in
      let same_second = seconds.0 in
      (cc, cc)
  one_statement {width = width} {depth = suc depth} (for_statement {behind = behind} {further = further} from to body)
      (for_statement {n = n'} {last = last'} {behind = behind'} {further = further'} {rest = rest'} {to = b'} {body = xs'} from' to' body') =
      let froms = one_outermost from from' refl refl in
      let first_end = froms.1 in
      let same_behind : behind' ≡ behind = cc in
      let tos = one_outermost to (subst (λ (ts : List Terminal). ReadsOutermost width ts b' (fixed kind.Do n' ∷ further')) same_behind to') refl refl in
      let second_end = tos.1 in
      let same_further : further' ≡ further = cc in
      let bodies = one_list body (subst (λ (ts : List Terminal). ReadsStatements width depth ts xs' (fixed kind.End last' ∷ rest')) same_further body') tt tt in
      let end = bodies.1 in
      let same_from = froms.0 in
      let same_to = tos.0 in
      let same_body = bodies.0 in
      (cc, cc)
  one_statement {width = width} {depth = suc depth} (while_statement {behind = behind} {limit = limit} test body) (while_statement {last = last'} {behind = behind'} {rest = rest'} {limit = limit'} {body = xs'} test' body') =
      let tests = one_condition test test' refl refl in
      let ends = tests.1 in
      let same_limit : limit ≡ limit' = cc in
      let same_behind : behind' ≡ behind = cc in
      let bodies = one_list body (subst (λ (ts : List Terminal). ReadsStatements width depth ts xs' (fixed kind.End last' ∷ rest')) same_behind body') tt tt in
      let end = bodies.1 in
      let same_test = tests.0 in
      let same_body = bodies.0 in
      (cc, cc)
  one_statement (call {x = x} arguments) (call others) =
      let same = one_arguments arguments others in
      let ends = same.1 in
      (ap (λ (es : List Expr). Call x es x.line) same.0, cc)

  one_list : {width depth : ℕ} {terminals r s : List Terminal} {a b : List Statement} → ReadsStatements width depth terminals a r → ReadsStatements width depth terminals b s → Closes r → Closes s → (a ≡ b) × (r ≡ s)
  one_list no_statement no_statement h k = (refl, refl)
  one_list no_statement (statements second more) h k = absurd (statement_begins second h)
  one_list (statements first more) no_statement h k = absurd (statement_begins first k)
  one_list {width} {depth} (statements first more) (statements {rest = rest'} {more = ys} second more') h k =
      let same = one_statement first second in
      let others = one_list more (subst (λ (ts : List Terminal). ReadsStatements width depth ts ys rest') (sym same.1) more') h k in
      let same_first = same.0 in
      let same_more = others.0 in
      (cc, others.1)

  one_else : {width depth : ℕ} {terminals r s : List Terminal} {a b : List Statement} {line l : ℕ} → ReadsElse width depth terminals a (fixed kind.End line ∷ r) → ReadsElse width depth terminals b (fixed kind.End l ∷ s)
      → (a ≡ b) × (fixed kind.End line ∷ r ≡ fixed kind.End l ∷ s)
  one_else no_else no_else = (refl, refl)
  one_else (other second) (other second') = one_list second second' tt tt

-- ---- declarations
one_bound : {terminals r s : List Terminal} {a b : ℤ} → ReadsBound terminals a r → ReadsBound terminals b s → (a ≡ b) × (r ≡ s)
one_bound unsigned unsigned = (refl, refl)
one_bound signed signed = (refl, refl)

one_range : {terminals r s : List Terminal} {a b : Range} → ReadsRange terminals a r → ReadsRange terminals b s → (a ≡ b) × (r ≡ s)
one_range (g.range {behind = behind} low high) (g.range {behind = behind'} {rest = rest'} {high = top'} low' high') =
    let lows = one_bound low low' in
    let dots = lows.1 in
    let same_behind : behind' ≡ behind = cc in
    let highs = one_bound high (subst (λ (ts : List Terminal). ReadsBound ts top' rest') same_behind high') in
    let same_low = lows.0 in
    let same_high = highs.0 in
    (cc, highs.1)

one_param : {terminals r s : List Terminal} {a b : Param} → ReadsParam terminals a r → ReadsParam terminals b s → (a ≡ b) × (r ≡ s)
one_param (param low) (param other_low) = let same = one_range low other_low in let same_range = same.0 in (cc, same.1)

one_local : {terminals r s : List Terminal} {a b : Local} → ReadsLocal terminals a r → ReadsLocal terminals b s → (a ≡ b) × (r ≡ s)
one_local (g.local {line = line} first) (g.local second) =
    let same = one_param first second in
    let ends = same.1 in
    (ap (λ (p : Param). record { name = p.name; range = p.range; line = line }) same.0, cc)

-- not a local
abbrev NoLocal : List Terminal → Type 0
NoLocal (fixed kind.Var line ∷ rest) = ⊥
NoLocal terminals = Unit {0}

local_begins : {terminals rest : List Terminal} {x : Local} → ReadsLocal terminals x rest → NoLocal terminals → ⊥
local_begins (g.local first) h = absurd h

no_paren : {line : ℕ} {terminals all rest : List Terminal} {x : Param} → ReadsParam all x rest → all ≡ fixed kind.RightParen line ∷ terminals → ⊥
no_paren (param low) same = absurd cc

param_no_paren : {line : ℕ} {terminals rest : List Terminal} {x : Param} → ReadsParam (fixed kind.RightParen line ∷ terminals) x rest → ⊥
param_no_paren h = no_paren h refl

one_declaration : {depth width : ℕ} {terminals r s : List Terminal} {a b : Declaration} → ReadsDeclaration depth width terminals a r → ReadsDeclaration depth width terminals b s → (a ≡ b) × (r ≡ s)
one_declaration (var {line = line} first) (var second) =
    let same = one_param first second in
    let ends = same.1 in
    (ap (λ (p : Param). Var p.name p.range line) same.0, cc)
one_declaration (array first) (array second) =
    let same = one_range first second in
    let ends = same.1 in
    let same_range = same.0 in
    (cc, cc)
one_declaration {depth} {width} (proc {behind = behind} {further = further} params locals body) (proc {behind = behind'} {further = further'} {rest = rest'} {locals = ls'} {body = xs'} {m = m'} {last = last'} params' locals' body') =
    let all = one_listed ReadsParam Anything (λ terminals r s a b first second h k. one_param first second) (λ line rest. tt) (λ line rest. tt) (λ line terminals rest x h. param_no_paren h) params params' in
    let same_behind = all.1 in
    let inner = one_all ReadsLocal Anything (λ terminals r s a b first second h k. one_local first second) (λ terminals rest x h. tt) NoLocal (λ terminals rest x. local_begins) locals
    (subst (λ (ts : List Terminal). ReadsAll ReadsLocal ts ls' (fixed kind.Do m' ∷ further')) (sym same_behind) locals') tt tt in
    let do_ = inner.1 in
    let same_further : further' ≡ further = cc in
    let bodies = one_list body (subst (λ (ts : List Terminal). ReadsStatements width depth ts xs' (fixed kind.End last' ∷ rest')) same_further body') tt tt in
    let end = bodies.1 in
    let same_params = all.0 in
    let same_locals = inner.0 in
    let same_body = bodies.0 in
    (cc, cc)

-- not a declaration
abbrev NoDeclaration : List Terminal → Type 0
NoDeclaration (fixed kind.Var line ∷ rest) = ⊥
NoDeclaration (fixed kind.Array line ∷ rest) = ⊥
NoDeclaration (fixed kind.Proc line ∷ rest) = ⊥
NoDeclaration terminals = Unit {0}

declaration_begins : {depth width : ℕ} {terminals rest : List Terminal} {x : Declaration} → ReadsDeclaration depth width terminals x rest → NoDeclaration terminals → ⊥
declaration_begins (var first) h = absurd h
declaration_begins (array first) h = absurd h
declaration_begins (proc params locals body) h = absurd h

statements_begin : {width depth : ℕ} {terminals : List Terminal} {xs : List Statement} → ReadsStatements width depth terminals xs [] → NoDeclaration terminals
statements_begin no_statement = tt
statements_begin (statements (assign variable e) more) = tt
statements_begin (statements (assign (element_of p) e) more) = tt
statements_begin (statements (print e) more) = tt
statements_begin (statements (read p) more) = tt
statements_begin (statements (if_statement c f e) more) = tt
statements_begin (statements (for_statement a b f) more) = tt
statements_begin (statements (while_statement c f) more) = tt
statements_begin (statements (call a) more) = tt

-- ---- programs
same_program : (a b : Program) → a.declarations ≡ b.declarations → a.statements ≡ b.statements → b ≡ a
same_program a b p q = let whole : b ≡ record { declarations = a.declarations; statements = a.statements } = rw (p, q) refl in whole

pub one_program : {depth width : ℕ} {terminals : List Terminal} {a b : Program} → Spells depth width terminals a → Spells depth width terminals b → b ≡ a
one_program {depth} {width} {terminals} {a} {b} first second =
    let all = one_all (ReadsDeclaration depth width) Anything (λ terminals r s a b x y h k. one_declaration x y) (λ terminals rest x h. tt) NoDeclaration (λ terminals rest x. declaration_begins) first.declarations second.declarations
    (statements_begin first.statements) (statements_begin second.statements) in
    let bodies = one_list first.statements (subst (λ (ts : List Terminal). ReadsStatements width depth ts b.statements []) (sym all.1) second.statements) tt tt in
    same_program a b all.0 bodies.0
