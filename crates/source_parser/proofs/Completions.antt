-- What is wanted can be completed.
use Rattle.std.proofs.Common.{◌≡◌, ℕ, suc, ◌+◌, List, [], ◌∷◌, refl, arith}
use Rattle.source_lexer.specs.declared.token.TokenKind.{TokenKind}
use Rattle.source_lexer.specs.declared.token.TokenKind.TheVariants as kind
use Rattle.source_tree.specs.declared.expression.Comparison.{Comparison}
use Rattle.source_parser.specs.Terminals.{Terminal, fixed}
use Rattle.source_parser.proofs.KindNumbers.{plain, plains}
use Rattle.source_parser.specs.Grammar as g
use Rattle.source_parser.specs.Grammar.{Level, Joins, plus, minus, times, divided, remainder, ReadsExpr, number, name, element, negated, bracketed, one_factor, multiplied, one_term, added, weight, ReadsWithin, ReadsOutermost}
use Rattle.source_parser.specs.Grammar.{Compares, less, less_equal, greater, greater_equal, equal, not_equal, ReadsCondition, condition, ReadsPlace, variable, element_of, ReadsAll, none, and_more, ReadsCommas, last, comma, ReadsListed, nothing, things}
use Rattle.source_parser.specs.Grammar.{ReadsStatement, assign, print, read, if_statement, for_statement, while_statement, call, ReadsStatements, no_statement, ReadsElse, no_else, other, ReadsBound, unsigned, signed, ReadsRange, ReadsParam, param, ReadsLocal, ReadsDeclaration, var, array, proc, Spells}
use Rattle.source_parser.specs.Wants.{Want, token, inner, close, fresh, outermost, sum, sum_tail, term, term_tail, factor, index, comparison, listed, commas, place_tail, after_name, statements, otherwise, declarations, bound, params, more_params, locals}

-- a thing of the grammar, whatever its tree
pub record HasTree {A : Type 0} (Reads : List Terminal → A → List Terminal → Type 0) (terminals rest : List Terminal) : Type 0 where
  pub tree : A
  pub reads : Reads terminals tree rest

-- a thing within so much weight, and what is left of the weight
pub record FollowedWithin (Reads : List Terminal → List Terminal → Type 0) (After : ℕ → List Terminal → Type 0) (w : ℕ) (terminals : List Terminal) : Type 0 where
  pub rest : List Terminal
  pub spare : ℕ
  pub reads : Reads terminals rest
  pub weighs : weight terminals + spare ≡ weight rest + w
  pub behind : After spare rest

-- a thing, and what is after it
pub record Followed (Reads : List Terminal → List Terminal → Type 0) (After : List Terminal → Type 0) (terminals : List Terminal) : Type 0 where
  pub rest : List Terminal
  pub reads : Reads terminals rest
  pub behind : After rest

-- none of the things that may come one after another
pub none_of : {A : Type 0} (Reads : List Terminal → List A → List Terminal → Type 0) {B : List Terminal → Type 0} → ((terminals : List Terminal) → Reads terminals [] terminals)
    → (terminals : List Terminal) → B terminals → Followed (HasTree Reads) B terminals
none_of Reads empty terminals f = record { rest = terminals; reads = record { tree = []; reads = empty terminals }; behind = f }

-- what may stand behind a thing and make it longer
abbrev pub Longer : {A B : Type 0} → (List Terminal → A → List Terminal → Type 0) → (List Terminal → B → List Terminal → Type 0) → List Terminal → List Terminal → Type 0
Longer First Whole terminals rest = (old : List Terminal) (first : _) → First old first terminals → HasTree Whole old rest

-- a terminal of a kind
abbrev pub IsPlain : TokenKind → List Terminal → List Terminal → Type 0
IsPlain k terminals rest = terminals ≡ plain k ∷ rest

-- a comparison
pub record Sign (terminals rest : List Terminal) : Type 0 where
  pub sign : TokenKind
  pub test : Comparison
  pub line : ℕ
  pub compares : Compares sign test
  pub is : terminals ≡ fixed sign line ∷ rest

-- the terminals are what is wanted, to the last
abbrev pub Fits : ℕ → List Want → ℕ → ℕ → List Terminal → Type 0
Fits width [] d w terminals = terminals ≡ []
Fits width (token k ∷ s) d w terminals = Followed (IsPlain k) (Fits width s d width) terminals
Fits width (inner k ∷ s) d w terminals = Followed (IsPlain k) (Fits width s d w) terminals
Fits width (close ∷ s) d w terminals = Followed (IsPlain kind.End) (Fits width s (suc d) width) terminals
Fits width (fresh ∷ s) d w terminals = Fits width s d width terminals
Fits width (outermost ∷ s) d w terminals = Followed (HasTree (ReadsOutermost width)) (Fits width s d width) terminals
Fits width (sum ∷ s) d w terminals = FollowedWithin (HasTree (ReadsExpr g.sum)) (Fits width s d) w terminals
Fits width (sum_tail ∷ s) d w terminals = FollowedWithin (Longer (ReadsExpr g.sum) (ReadsExpr g.sum)) (Fits width s d) w terminals
Fits width (term ∷ s) d w terminals = FollowedWithin (HasTree (ReadsExpr g.term)) (Fits width s d) w terminals
Fits width (term_tail ∷ s) d w terminals = FollowedWithin (Longer (ReadsExpr g.term) (ReadsExpr g.term)) (Fits width s d) w terminals
Fits width (factor ∷ s) d w terminals = FollowedWithin (HasTree (ReadsExpr g.factor)) (Fits width s d) w terminals
Fits width (index ∷ s) d w terminals = FollowedWithin (λ xs. HasTree (ReadsExpr g.factor) (plain kind.Name ∷ xs)) (Fits width s d) w terminals
Fits width (comparison ∷ s) d w terminals = Followed Sign (Fits width s d width) terminals
Fits width (listed ∷ s) d w terminals = Followed (HasTree (ReadsListed (ReadsOutermost width))) (Fits width s d width) terminals
Fits width (commas ∷ s) d w terminals = Followed (Longer (ReadsOutermost width) (ReadsCommas (ReadsOutermost width))) (Fits width s d width) terminals
Fits width (place_tail ∷ s) d w terminals = Followed (λ xs. HasTree (ReadsPlace width) (plain kind.Name ∷ xs)) (Fits width s d width) terminals
Fits width (after_name ∷ s) d w terminals = Followed (λ xs. HasTree (ReadsStatement width d) (plain kind.Name ∷ xs)) (Fits width s d width) terminals
Fits width (statements ∷ s) d w terminals = Followed (HasTree (ReadsStatements width d)) (Fits width s d width) terminals
Fits width (otherwise ∷ s) d w terminals = Followed (HasTree (ReadsElse width d)) (Fits width s d width) terminals
Fits width (declarations ∷ s) d w terminals = Followed (HasTree (ReadsAll (ReadsDeclaration d width))) (Fits width s d width) terminals
Fits width (bound ∷ s) d w terminals = Followed (HasTree ReadsBound) (Fits width s d width) terminals
Fits width (params ∷ s) d w terminals = Followed (HasTree (ReadsListed ReadsParam)) (Fits width s d width) terminals
Fits width (more_params ∷ s) d w terminals = Followed (Longer ReadsParam (ReadsCommas ReadsParam)) (Fits width s d width) terminals
Fits width (locals ∷ s) d w terminals = Followed (HasTree (ReadsAll ReadsLocal)) (Fits width s d width) terminals

-- ---- what is wanted, completed: the kinds of it
pub completes : (width : ℕ) (s : List Want) (d w : ℕ) → (rest : List TokenKind) × Fits width s d w (plains rest)
completes width [] d w = ([], refl)
completes width (token k ∷ s) d w = let h = completes width s d width in (k ∷ h.0, record { rest = plains h.0; reads = refl; behind = h.1 })
completes width (inner k ∷ s) d w = let h = completes width s d w in (k ∷ h.0, record { rest = plains h.0; reads = refl; behind = h.1 })
completes width (close ∷ s) d w = let h = completes width s (suc d) width in (kind.End ∷ h.0, record { rest = plains h.0; reads = refl; behind = h.1 })
completes width (fresh ∷ s) d w = completes width s d width
completes width (outermost ∷ s) d w =
    let h = completes width s d width in
    (kind.Number ∷ h.0, record { rest = plains h.0; reads = record { tree = _; reads = record { reads = one_term (one_factor number); fits = omega arith } }; behind = h.1 })
completes width (sum ∷ s) d w =
    let h = completes width s d w in
    (kind.Number ∷ h.0, record { rest = plains h.0; spare = w; reads = record { tree = _; reads = one_term (one_factor number) }; weighs = refl; behind = h.1 })
completes width (sum_tail ∷ s) d w = let h = completes width s d w in (h.0, record { rest = plains h.0; spare = w; reads = λ old e r. record { tree = e; reads = r }; weighs = refl; behind = h.1 })
completes width (term ∷ s) d w =
    let h = completes width s d w in
    (kind.Number ∷ h.0, record { rest = plains h.0; spare = w; reads = record { tree = _; reads = one_factor number }; weighs = refl; behind = h.1 })
completes width (term_tail ∷ s) d w = let h = completes width s d w in (h.0, record { rest = plains h.0; spare = w; reads = λ old e r. record { tree = e; reads = r }; weighs = refl; behind = h.1 })
completes width (factor ∷ s) d w =
    let h = completes width s d w in
    (kind.Number ∷ h.0, record { rest = plains h.0; spare = w; reads = record { tree = _; reads = number }; weighs = refl; behind = h.1 })
completes width (index ∷ s) d w = let h = completes width s d w in (h.0, record { rest = plains h.0; spare = w; reads = record { tree = _; reads = name }; weighs = refl; behind = h.1 })
completes width (comparison ∷ s) d w =
    let h = completes width s d width in
    (kind.Less ∷ h.0, record { rest = plains h.0; reads = record { sign = kind.Less; test = _; line = 0; compares = less; is = refl }; behind = h.1 })
completes width (listed ∷ s) d w = let h = completes width s d width in (kind.RightParen ∷ h.0, record { rest = plains h.0; reads = record { tree = []; reads = nothing }; behind = h.1 })
completes width (commas ∷ s) d w =
    let h = completes width s d width in
    (kind.RightParen ∷ h.0, record { rest = plains h.0; reads = λ old e r. record { tree = _; reads = last r }; behind = h.1 })
completes width (place_tail ∷ s) d w = let h = completes width s d width in (h.0, record { rest = plains h.0; reads = record { tree = _; reads = variable }; behind = h.1 })
completes width (after_name ∷ s) d w =
    let h = completes width s d width in
    (kind.LeftParen ∷ kind.RightParen ∷ kind.Semicolon ∷ h.0, record { rest = plains h.0; reads = record { tree = _; reads = call nothing }; behind = h.1 })
completes width (statements ∷ s) d w = let h = completes width s d width in (h.0, none_of (ReadsStatements width d) (λ terminals. no_statement) (plains h.0) h.1)
completes width (otherwise ∷ s) d w = let h = completes width s d width in (h.0, none_of (ReadsElse width d) (λ terminals. no_else) (plains h.0) h.1)
completes width (declarations ∷ s) d w = let h = completes width s d width in (h.0, none_of (ReadsAll (ReadsDeclaration d width)) (λ terminals. none) (plains h.0) h.1)
completes width (bound ∷ s) d w = let h = completes width s d width in (kind.Number ∷ h.0, record { rest = plains h.0; reads = record { tree = _; reads = unsigned }; behind = h.1 })
completes width (params ∷ s) d w = let h = completes width s d width in (kind.RightParen ∷ h.0, record { rest = plains h.0; reads = record { tree = []; reads = nothing }; behind = h.1 })
completes width (more_params ∷ s) d w =
    let h = completes width s d width in
    (kind.RightParen ∷ h.0, record { rest = plains h.0; reads = λ old e r. record { tree = _; reads = last r }; behind = h.1 })
completes width (locals ∷ s) d w = let h = completes width s d width in (h.0, none_of (ReadsAll ReadsLocal) (λ terminals. none) (plains h.0) h.1)
