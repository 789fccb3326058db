-- At most one answer fits a list of kinds.
use Rattle.std.proofs.Common.{◌≡◌, ◌⊎◌, inl, inr, ℕ, zero, suc, ◌<◌, ◌≤◌, List, [], ◌∷◌, ◌++◌, length, take, drop, refl, ap, sym, subst, ◌∙◌, arith, append_assoc}
use Rattle.std.proofs.lemmas.List.{take-append-drop}
use Rattle.source_lexer.specs.declared.token.TokenKind.{TokenKind}
use Rattle.source_parser.specs.Prefixes.{SpellsKinds, IsProgram, IsPrefix, IsPrefixWithin, StopsAt, DeepAt}

-- ---- prefixes of prefixes
at_end : (place end : ℕ) → place ≤ end → (place < end) ⊎ (place ≡ end)
at_end zero zero less = inr refl
at_end zero (suc end) less = inl (omega arith)
at_end (suc place) zero less = absurd (omega (arith, less))
at_end (suc place) (suc end) less = elim (at_end place end (omega (arith, less))) [
  | inl below ↦ inl (omega (arith, below))
  | inr same ↦ inr (ap (λ (n : ℕ). suc n) same)
]

pub in_order : (place other : ℕ) → (place < other) ⊎ ((place ≡ other) ⊎ (other < place))
in_order zero zero = inr (inl refl)
in_order zero (suc other) = inl (omega arith)
in_order (suc place) zero = inr (inr (omega arith))
in_order (suc place) (suc other) = elim (in_order place other) [
  | inl less ↦ inl (omega (arith, less))
  | inr (inl same) ↦ inr (inl (ap (λ (n : ℕ). suc n) same))
  | inr (inr more) ↦ inr (inr (omega (arith, more)))
]

pub shorter : (kinds : List TokenKind) (place later : ℕ) → place ≤ later → take place (take later kinds) ≡ take place kinds
shorter [] zero later less = refl
shorter [] (suc place) zero less = refl
shorter [] (suc place) (suc later) less = refl
shorter (k ∷ kinds) zero later less = refl
shorter (k ∷ kinds) (suc place) zero less = absurd (omega (arith, less))
shorter (k ∷ kinds) (suc place) (suc later) less = ap (λ (ks : List TokenKind). k ∷ ks) (shorter kinds place later (omega (arith, less)))

parted : (kinds : List TokenKind) (place later : ℕ) → place ≤ later → take place kinds ++ drop place (take later kinds) ≡ take later kinds
parted kinds place later less =
    ap (λ (ks : List TokenKind). ks ++ drop place (take later kinds)) (sym (shorter kinds place later less)) ∙ take-append-drop place (take later kinds)

pub prefix_before : (kinds : List TokenKind) (place later : ℕ) → place ≤ later → IsPrefix (take later kinds) → IsPrefix (take place kinds)
prefix_before kinds place later less h =
    let middle = drop place (take later kinds) in
    record {
      rest = middle ++ h.rest;
      program = subst IsProgram (ap (λ (ks : List TokenKind). ks ++ h.rest) (sym (parted kinds place later less)) ∙ append_assoc (take place kinds) middle h.rest) h.program;
    }

pub within_before : {depth width : ℕ} (kinds : List TokenKind) (place later : ℕ) → place ≤ later → IsPrefixWithin depth width (take later kinds) → IsPrefixWithin depth width (take place kinds)
within_before {depth} {width} kinds place later less h =
    let middle = drop place (take later kinds) in
    record {
      rest = middle ++ h.rest;
      spells = subst (SpellsKinds depth width) (ap (λ (ks : List TokenKind). ks ++ h.rest) (sym (parted kinds place later less)) ∙ append_assoc (take place kinds) middle h.rest) h.spells;
    }

pub within_prefix : {depth width : ℕ} {kinds : List TokenKind} → IsPrefixWithin depth width kinds → IsPrefix kinds
within_prefix {depth} {width} h = record { rest = h.rest; program = record { depth = depth; width = width; spells = h.spells } }

program_within : {depth width : ℕ} {kinds : List TokenKind} (place : ℕ) → SpellsKinds depth width kinds → IsPrefixWithin depth width (take place kinds)
program_within {depth} {width} {kinds} place spells = record { rest = drop place kinds; spells = subst (SpellsKinds depth width) (sym (take-append-drop place kinds)) spells }

program_prefix : {kinds : List TokenKind} (place : ℕ) → IsProgram kinds → IsPrefix (take place kinds)
program_prefix {kinds} place program = record { rest = drop place kinds; program = subst IsProgram (sym (take-append-drop place kinds)) program }

-- ---- a fault and a program
pub stops_no_program : {depth width place : ℕ} {kinds : List TokenKind} → StopsAt depth width kinds place → SpellsKinds depth width kinds → ⊥
stops_no_program {depth} {width} {place} {kinds} h spells =
    let program : IsProgram kinds = record { depth = depth; width = width; spells = spells } in
    elim (at_end place (length kinds) h.within) [
      | inl less ↦ h.stops less (program_prefix (suc place) program)
      | inr same ↦ h.ended same program
    ]

pub deep_no_program : {depth width place : ℕ} {kinds : List TokenKind} → DeepAt depth width kinds place → SpellsKinds depth width kinds → ⊥
deep_no_program {place = place} h spells = h.deep (program_within (suc place) spells)

-- ---- two faults
-- a place that is within the limits up to and with its kind is before any fault
module _ {depth width : ℕ} {kinds : List TokenKind} where
  pub no_earlier_stop : (place other : ℕ) → place < other → StopsAt depth width kinds place → IsPrefix (take other kinds) → other ≤ length kinds → ⊥
  no_earlier_stop place other less h prefix within = h.stops (omega (arith, less, within)) (prefix_before kinds (suc place) other (omega (arith, less)) prefix)

  pub no_earlier_deep : (place other : ℕ) → place < other → DeepAt depth width kinds place → IsPrefixWithin depth width (take other kinds) → ⊥
  no_earlier_deep place other less h within = h.deep (within_before kinds (suc place) other (omega (arith, less)) within)

  pub one_stop : (place other : ℕ) → StopsAt depth width kinds place → StopsAt depth width kinds other → place ≡ other
  one_stop place other h k = elim (in_order place other) [
    | inl less ↦ absurd (no_earlier_stop place other less h (within_prefix k.before) k.within)
    | inr (inl same) ↦ same
    | inr (inr more) ↦ absurd (no_earlier_stop other place more k (within_prefix h.before) h.within)
  ]

  pub one_deep : (place other : ℕ) → DeepAt depth width kinds place → DeepAt depth width kinds other → place ≡ other
  one_deep place other h k = elim (in_order place other) [
    | inl less ↦ absurd (no_earlier_deep place other less h k.before)
    | inr (inl same) ↦ same
    | inr (inr more) ↦ absurd (no_earlier_deep other place more k h.before)
  ]

  pub not_both : (place other : ℕ) → StopsAt depth width kinds place → DeepAt depth width kinds other → ⊥
  not_both place other h k = elim (in_order place other) [
    | inl less ↦ no_earlier_stop place other less h (within_prefix k.before) (let inside = k.within in omega (arith, inside))
    | inr (inl same) ↦ (let inside = k.within in h.stops (omega (arith, same, inside)) (subst (λ (n : ℕ). IsPrefix (take (suc n) kinds)) (sym same) k.prefix))
    | inr (inr more) ↦ no_earlier_deep other place more k h.before
  ]
