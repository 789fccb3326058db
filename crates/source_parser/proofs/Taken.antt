-- What was taken, or was not there.
use Rattle.std.proofs.Common.{◌≡◌, ℕ, suc, List, ◌∷◌, Option, Some, None, Ok, true, false, subst, ◌∙◌}
use Rattle.std.specs.Prelude.{is_some}
use Rattle.source_lexer.specs.declared.token.TokenKind.{TokenKind}
use Rattle.source_lexer.specs.declared.token.TokenKind.TheVariants as kind
use Rattle.source_tree.specs.declared.name.Name.{Name}
use Rattle.source_tree.specs.declared.expression.Operator.TheVariants as operator
use Rattle.source_parser.specs.declared.expression.Chain.{Chain}
use Rattle.source_parser.specs.declared.expression.Chain.TheVariants as chain
use Rattle.source_tree.specs.declared.expression.Comparison.{Comparison}
use Rattle.source_parser.specs.Terminals.{Terminal, identifier, fixed, kinds_of}
use Rattle.source_parser.specs.Grammar.{Joins, plus, minus, times, divided, remainder, Compares, less, less_equal, greater, greater_equal, equal, not_equal}
use Rattle.source_parser.specs.Taking.{level_of, NotKind, Misses, TakesFixed, TakesIdentifier, TakesWithin, TakesWeighted, ExpectsComparison}

pub taken : (kind : TokenKind) (old : List Terminal) (found : Option ℕ) (new : List Terminal) → TakesFixed kind old found new → true ≡ is_some found
    → (line : ℕ) × (old ≡ fixed kind line ∷ new)
taken kind old None new h e = absurd cc
taken kind old (Some line) new h e = (line, h)

pub not_taken : (kind : TokenKind) (old : List Terminal) (found : Option ℕ) (new : List Terminal) → TakesFixed kind old found new → false ≡ is_some found
    → Misses kind old new
not_taken kind old None new h e = h
not_taken kind old (Some line) new h e = absurd cc

pub within_not_taken : (kind : TokenKind) (limit : ℕ) (old : List Terminal) (found : Option ℕ) (new : List Terminal)
    → TakesWithin kind limit old (Ok found) new → found ≡ None → Misses kind old new
within_not_taken kind limit old None new h e = h
within_not_taken kind limit old (Some line) new h e = absurd cc

pub weighted_taken : (kind : TokenKind) (old : List Terminal) (weight_left : ℕ) (found : Option ℕ) (new : List Terminal) (left : ℕ)
    → TakesWeighted kind old weight_left (Ok found) new left → is_some found ≡ true
    → (line : ℕ) × (old ≡ fixed kind line ∷ new) × (weight_left ≡ suc left)
weighted_taken kind old weight_left None new left h e = absurd cc
weighted_taken kind old weight_left (Some line) new left h e = (line, h.0, h.1)

pub weighted_missed : (kind : TokenKind) (old : List Terminal) (weight_left : ℕ) (found : Option ℕ) (new : List Terminal) (left : ℕ)
    → TakesWeighted kind old weight_left (Ok found) new left → is_some found ≡ false
    → (left ≡ weight_left) × Misses kind old new
weighted_missed kind old weight_left None new left h e = h
weighted_missed kind old weight_left (Some line) new left h e = absurd cc

pub identifier_taken : (old : List Terminal) (found : Option Name) (new : List Terminal) (name : Name) → TakesIdentifier old (Ok found) new → found ≡ Some name
    → old ≡ identifier name ∷ new
identifier_taken old None new name h e = absurd cc
identifier_taken old (Some own) new name h e = let same : own ≡ name = cc in rw same at h

-- ---- the operators of sums and terms
pub plus_joins : {c : Chain} {k : TokenKind} → c ≡ chain.Sum → k ≡ kind.Plus → Joins (level_of c) k operator.Add
plus_joins c k = rw (c, k) plus

pub minus_joins : {c : Chain} {k : TokenKind} → c ≡ chain.Sum → k ≡ kind.Minus → Joins (level_of c) k operator.Sub
minus_joins c k = rw (c, k) minus

pub times_joins : {c : Chain} {k : TokenKind} → c ≡ chain.Term → k ≡ kind.Star → Joins (level_of c) k operator.Mul
times_joins c k = rw (c, k) times

pub divided_joins : {c : Chain} {k : TokenKind} → c ≡ chain.Term → k ≡ kind.Div → Joins (level_of c) k operator.Div
divided_joins c k = rw (c, k) divided

pub remainder_joins : {c : Chain} {k : TokenKind} → c ≡ chain.Term → k ≡ kind.Mod → Joins (level_of c) k operator.Mod
remainder_joins c k = rw (c, k) remainder

-- ---- a comparison
-- a comparison that was taken after others that weren't
pub comparison_found : {sign : TokenKind} {comparison : Comparison} → Compares sign comparison
    → (old now new : List Terminal) (found : Option ℕ) → now ≡ old → true ≡ is_some found → TakesFixed sign now found new
    → ExpectsComparison old (Ok comparison) new
comparison_found {sign = sign} compares old now new found same some h =
    let stands = taken sign now found new h some in
    (sign, stands.0, compares, rw (← same) stands.1)

-- ---- a sign that isn't there
-- none of the comparisons, tried one after the other
pub no_comparison : {a b c d e f : List Terminal} → b ≡ a → c ≡ b → d ≡ c → e ≡ d → f ≡ e
    → NotKind kind.Less (kinds_of a) → NotKind kind.LessEqual (kinds_of b) → NotKind kind.Greater (kinds_of c) → NotKind kind.GreaterEqual (kinds_of d) → NotKind kind.Equal (kinds_of e)
    → NotKind kind.NotEqual (kinds_of f) → (sign : TokenKind) (comparison : Comparison) → Compares sign comparison → NotKind sign (kinds_of a)
no_comparison {a} p q r s t i j k l m n sign comparison less = i
no_comparison {a} p q r s t i j k l m n sign comparison less_equal = subst (λ (ts : List Terminal). NotKind kind.LessEqual (kinds_of ts)) p j
no_comparison {a} p q r s t i j k l m n sign comparison greater = subst (λ (ts : List Terminal). NotKind kind.Greater (kinds_of ts)) (q ∙ p) k
no_comparison {a} p q r s t i j k l m n sign comparison greater_equal = subst (λ (ts : List Terminal). NotKind kind.GreaterEqual (kinds_of ts)) (r ∙ q ∙ p) l
no_comparison {a} p q r s t i j k l m n sign comparison equal = subst (λ (ts : List Terminal). NotKind kind.Equal (kinds_of ts)) (s ∙ r ∙ q ∙ p) m
no_comparison {a} p q r s t i j k l m n sign comparison not_equal = subst (λ (ts : List Terminal). NotKind kind.NotEqual (kinds_of ts)) (t ∙ s ∙ r ∙ q ∙ p) n
