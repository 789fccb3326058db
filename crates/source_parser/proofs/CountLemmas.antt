-- A place is the first over a limit where kinds before it are within the limits, and with it they are not.
use Rattle.std.proofs.Common.{◌≡◌, ◌⊎◌, inl, inr, ℕ, zero, suc, ◌<◌, ◌≤◌, List, [], ◌∷◌, ◌++◌, length, take, refl, ap, sym, subst, arith}
use Rattle.source_lexer.specs.declared.token.TokenKind.{TokenKind}
use Rattle.source_parser.specs.Counting.{outside, weight_of, Count, counted, count_of, IsOver}
use Rattle.source_parser.specs.Prefixes.{IsPrefix, IsPrefixWithin, DeepAt}
use Rattle.source_parser.specs.Wants.{Want, declarations, statements, Move, stuck, deep, on, step, run, spelled}
use Rattle.source_parser.proofs.AnswerLaws.{in_order, shorter, prefix_before, within_before}
use Rattle.source_parser.proofs.CountSteps.{after, Agrees, Keeps, step_leads, never_over, at_first}
use Rattle.source_parser.proofs.Places.{Goes, Reached, at_once, one_more, runs, within}
use Rattle.source_parser.proofs.WiderLimits.{Alike, alike}

module _ (depth width : ℕ) where
  next : {s : List Want} {d w : ℕ} {count : Count} (k : TokenKind) → Agrees depth width s d w count → Keeps depth width (step width k s d w) (after count.blocks count.standing k)
  next {s} {d} {w} {count} k h = step_leads depth width s k d w count.blocks count.standing h.class h.chain h.placed h.depth_is h.blocks_are

  -- ---- what is within the limits is never over them
  goes : (k : TokenKind) (ks : List TokenKind) (m : Move) (count : Count)
      → ((s : List Want) (d w : ℕ) → Agrees depth width s d w count → run width ks s d w ≡ spelled → ⊥)
      → Keeps depth width m count → Goes width k ks m ≡ spelled → ⊥
  goes k ks stuck count more h e = absurd cc
  goes k ks deep count more h e = absurd cc
  goes k ks (on s d w) count more h e = more s d w h e

  spelled_within : (ks rest : List TokenKind) (s : List Want) (d w : ℕ) (count : Count) → Agrees depth width s d w count → run width (ks ++ rest) s d w ≡ spelled
      → IsOver depth width (counted count ks) → ⊥
  spelled_within [] rest s d w count h e over = never_over depth width h over
  spelled_within (k ∷ ks) rest s d w count h e over =
      goes k (ks ++ rest) (step width k s d w) (after count.blocks count.standing k)
      (λ s' d' w' h' e'. spelled_within ks rest s' d' w' (after count.blocks count.standing k) h' e' over) (next k h) e

  pub within_not_over : (ks : List TokenKind) → IsPrefixWithin depth width ks → IsOver depth width (count_of ks) → ⊥
  within_not_over ks h over =
      spelled_within ks h.rest (declarations ∷ statements ∷ []) depth width (record { blocks = 0; standing = outside }) (at_first depth width) (runs h.spells) over

  -- ---- what is never over the limits is within them
  record Reaches (s : List Want) (d w : ℕ) (ks : List TokenKind) : Type 0 where
    wants : List Want
    left : ℕ
    spare : ℕ
    reached : Reached width s d w ks wants left spare

  one_step : (k : TokenKind) (ks more : List TokenKind) (s : List Want) (d w width' : ℕ) (m other : Move) (count : Count) → step width k s d w ≡ m
      → ((s' : List Want) (d' w' : ℕ) → Agrees depth width s' d' w' count → (d'' w'' : ℕ) → run width' (ks ++ more) s' d'' w'' ≡ spelled → Reaches s' d' w' ks)
      → Keeps depth width m count → (IsOver depth width count → ⊥) → Alike m other → Goes width' k (ks ++ more) other ≡ spelled → Reaches s d w (k ∷ ks)
  one_step k ks more s d w width' stuck stuck count e ih h not a g = absurd cc
  one_step k ks more s d w width' stuck deep count e ih h not a g = absurd a
  one_step k ks more s d w width' stuck (on s'' d'' w'') count e ih h not a g = absurd a
  one_step k ks more s d w width' deep other count e ih h not a g = absurd (not h)
  one_step k ks more s d w width' (on s' d' w') stuck count e ih h not a g = absurd a
  one_step k ks more s d w width' (on s' d' w') deep count e ih h not a g = absurd cc
  one_step k ks more s d w width' (on s' d' w') (on s'' d'' w'') count e ih h not a g =
      let next_one = ih s' d' w' h d'' w'' (subst (λ (wants : List Want). run width' (ks ++ more) wants d'' w'' ≡ spelled) (sym a) g) in
      record {
        wants = next_one.wants;
        left = next_one.left;
        spare = next_one.spare;
        reached = one_more width s d w k s' d' w' ks next_one.wants next_one.left next_one.spare e next_one.reached;
      }

  reaches : (ks more : List TokenKind) (s : List Want) (d w : ℕ) (count : Count) → Agrees depth width s d w count
      → ((place : ℕ) → IsOver depth width (counted count (take place ks)) → ⊥) → (width' d' w' : ℕ) → run width' (ks ++ more) s d' w' ≡ spelled → Reaches s d w ks
  reaches [] more s d w count h none width' d' w' e = record { wants = s; left = d; spare = w; reached = at_once width s d w }
  reaches (k ∷ ks) more s d w count h none width' d' w' e =
      one_step k ks more s d w width' (step width k s d w) (step width' k s d' w') (after count.blocks count.standing k) refl
      (λ s' d'' w'' h' d3 w3 e'. reaches ks more s' d'' w'' (after count.blocks count.standing k) h' (λ place. none (suc place)) width' d3 w3 e')
      (next k h) (none 1) (alike k s width d w width' d' w') e

  pub not_over_within : (ks : List TokenKind) → IsPrefix ks → ((place : ℕ) → IsOver depth width (count_of (take place ks)) → ⊥) → IsPrefixWithin depth width ks
  not_over_within ks h none =
      let p = h.program in
      let all = reaches ks h.rest (declarations ∷ statements ∷ []) depth width (record { blocks = 0; standing = outside }) (at_first depth width) none p.width p.depth p.width (runs p.spells) in
      within depth width ks all.wants all.left all.spare all.reached

  -- ---- the first over a limit
  less_or_not : (a b : ℕ) → (a < b) ⊎ (b ≤ a)
  less_or_not a b = elim (in_order a b) [
    | inl less ↦ inl less
    | inr (inl same) ↦ inr (omega (arith, same))
    | inr (inr more) ↦ inr (omega (arith, more))
  ]

  over_or_not : (count : Count) → IsOver depth width count ⊎ (IsOver depth width count → ⊥)
  over_or_not count = elim (less_or_not depth count.blocks) [
    | inl more ↦ inl (inl more)
    | inr least ↦ elim (less_or_not width (weight_of count.standing)) [
      | inl more ↦ inl (inr more)
      | inr less ↦ inr (λ over. elim over [ inl more ↦ omega (arith, least, more) | inr more ↦ omega (arith, less, more) ])
    ]
  ]

  none_over : (kinds : List TokenKind) (end : ℕ) → IsPrefixWithin depth width (take end kinds) → (earlier : ℕ) → earlier ≤ end → IsOver depth width (count_of (take earlier kinds)) → ⊥
  none_over kinds end h earlier less over = within_not_over (take earlier kinds) (within_before kinds earlier end less h) over

  longer : (kinds : List TokenKind) (place end : ℕ) → end ≤ place → take place (take end kinds) ≡ take end kinds
  longer [] zero zero less = refl
  longer [] zero (suc end) less = refl
  longer [] (suc place) zero less = refl
  longer [] (suc place) (suc end) less = refl
  longer (k ∷ kinds) zero zero less = refl
  longer (k ∷ kinds) zero (suc end) less = absurd (omega (arith, less))
  longer (k ∷ kinds) (suc place) zero less = refl
  longer (k ∷ kinds) (suc place) (suc end) less = ap (λ (ks : List TokenKind). k ∷ ks) (longer kinds place end (omega (arith, less)))

  -- none of the parts of a part is over where none up to it is
  no_part_over : (kinds : List TokenKind) (end : ℕ) → ((earlier : ℕ) → earlier ≤ end → IsOver depth width (count_of (take earlier kinds)) → ⊥)
      → (place : ℕ) → IsOver depth width (count_of (take place (take end kinds))) → ⊥
  no_part_over kinds end none place over = elim (less_or_not place end) [
    | inl less ↦ none place (omega (arith, less)) (subst (λ (ks : List TokenKind). IsOver depth width (count_of ks)) (shorter kinds place end (omega (arith, less))) over)
    | inr least ↦ none end (omega arith) (subst (λ (ks : List TokenKind). IsOver depth width (count_of ks)) (longer kinds place end least) over)
  ]

  up_to : (kinds : List TokenKind) (place : ℕ) → ((earlier : ℕ) → earlier ≤ place → IsOver depth width (count_of (take earlier kinds)) → ⊥)
      → (IsOver depth width (count_of (take (suc place) kinds)) → ⊥) → (earlier : ℕ) → earlier ≤ suc place → IsOver depth width (count_of (take earlier kinds)) → ⊥
  up_to kinds place none last earlier less over = elim (in_order earlier (suc place)) [
    | inl below ↦ none earlier (omega (arith, below)) over
    | inr (inl same) ↦ last (subst (λ (n : ℕ). IsOver depth width (count_of (take n kinds))) same over)
    | inr (inr more) ↦ omega (arith, less, more)
  ]

  pub deep_is_first_over : (kinds : List TokenKind) (place : ℕ) → DeepAt depth width kinds place
      → IsOver depth width (count_of (take (suc place) kinds)) × ((earlier : ℕ) → earlier ≤ place → IsOver depth width (count_of (take earlier kinds)) → ⊥)
  deep_is_first_over kinds place h =
      let none = none_over kinds place h.before in (
        elim (over_or_not (count_of (take (suc place) kinds))) [
          | inl over ↦ over
          | inr last ↦ absurd (h.deep (not_over_within (take (suc place) kinds) h.prefix (no_part_over kinds (suc place) (up_to kinds place none last))))
        ],
        none,
      )

  pub first_over_is_deep : (kinds : List TokenKind) (place : ℕ) → place < length kinds → IsPrefix (take (suc place) kinds) → IsOver depth width (count_of (take (suc place) kinds))
      → ((earlier : ℕ) → earlier ≤ place → IsOver depth width (count_of (take earlier kinds)) → ⊥) → DeepAt depth width kinds place
  first_over_is_deep kinds place inside prefix over none = record {
    within = inside;
    before = not_over_within (take place kinds) (prefix_before kinds place (suc place) (omega arith) prefix) (no_part_over kinds place none);
    prefix = prefix;
    deep = λ h. within_not_over (take (suc place) kinds) h over;
  }
