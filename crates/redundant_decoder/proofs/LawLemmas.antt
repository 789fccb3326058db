-- The distance law: integers in range that agree for as many moduli as there are information moduli are equal.
use Rattle.std.proofs.Common.{◌≡◌, ◌≢◌, ℕ, ◌+◌, ◌*◌, ◌<◌, ◌≤◌, Bool, List, Option, Some, None, length, All, sym, subst, arith, ℤ, inl, inr, length-drop}
use Rattle.std.specs.List.{remove}
use Rattle.std.proofs.lemmas.Bool.{cases_lt}
use Rattle.std.proofs.lemmas.List.Elements.{All-drop, All-weaker, recursion_from_All}
use Rattle.number_theory.specs.Coprime.{product}
use Rattle.number_theory.specs.Residue.{residue}
use Rattle.number_theory.proofs.CoprimeLemmas.{same_from_residues_within}
use Rattle.moduli_sets.specs.Set.{ModuliSet, IsInRange, IsModulus, IsModuliSet, information, redundant, radius, information_product, range_bound}
use Rattle.moduli_sets.specs.Vector.{vector_of}
use Rattle.number_theory.specs.Distance.{distance}
use Rattle.redundant_decoder.specs.Nearest.{part, without}
use Rattle.redundant_decoder.proofs.DistanceLemmas.{length-remove_least}
use Rattle.redundant_decoder.proofs.PartLemmas.{ArePairwiseCoprime-part, product-part, agreeing_places, length-agreeing, map-agreeing, all_kept, all_but, part-all_kept, part-all_but, remove-map}

-- ---- equal integers
-- a part with as many members as there are information moduli has a product of at least theirs
pub product_of_part : (set : ModuliSet) (keeps : List Bool) → IsModuliSet set → set.info ≤ length (part keeps set.moduli) → information_product set ≤ product (part keeps set.moduli)
product_of_part set keeps rules many =
    let positive = All-weaker IsModulus (λ m. 1 ≤ m) (λ m h. omega (arith, h.at_least_two)) (redundant set) (All-drop IsModulus set.info set.moduli rules.moduli) in
    product-part set.info keeps set.moduli
    (recursion_from_All (λ m. 1 ≤ m) (redundant set) positive)
    (recursion_from_All (λ r. All (λ m. m < r) (information set)) (redundant set) rules.larger)
    many

-- integers in range with equal residues for such a part are equal
pub same_from_part : (set : ModuliSet) (keeps : List Bool) (x y : ℤ) → IsModuliSet set → IsInRange set x → IsInRange set y → set.info ≤ length (part keeps set.moduli) → vector_of (part keeps set.moduli) x ≡ vector_of (part keeps set.moduli) y → x ≡ y
same_from_part set keeps x y rules in_x in_y many e =
    let wide : 2 * range_bound set < product (part keeps set.moduli) = omega (arith, rules.wide, product_of_part set keeps rules many) in
    same_from_residues_within (part keeps set.moduli) (range_bound set) x y (ArePairwiseCoprime-part keeps set.moduli rules.coprime) e wide in_x.low in_x.high in_y.low in_y.high

-- and so are integers in range where the distance over a part leaves as many agreeing_places places
pub same_from_part_distance : (set : ModuliSet) (keeps : List Bool) (x y : ℤ) → IsModuliSet set → IsInRange set x → IsInRange set y → set.info + distance (vector_of (part keeps set.moduli) x) (vector_of (part keeps set.moduli) y) ≤ length (part keeps set.moduli) → x ≡ y
same_from_part_distance set keeps x y rules in_x in_y near =
    let agree = agreeing_places keeps (residue x) (residue y) set.moduli in
    let count = length-agreeing keeps (residue x) (residue y) set.moduli in
    same_from_part set agree x y rules in_x in_y (omega (arith, count)) (map-agreeing keeps (residue x) (residue y) set.moduli)

-- information moduli, and an odd number of redundant ones
count_of_moduli : (set : ModuliSet) → IsModuliSet set → length set.moduli ≡ set.info + (2 * radius set + 1)
count_of_moduli set rules = omega (arith, rules.odd, length-drop set.info set.moduli)

-- the same for all moduli
pub same_from_distance_of_whole : (set : ModuliSet) (x y : ℤ) → IsModuliSet set → IsInRange set x → IsInRange set y → distance (vector_of set.moduli x) (vector_of set.moduli y) ≤ 2 * radius set + 1 → x ≡ y
same_from_distance_of_whole set x y rules in_x in_y near =
    let enough : set.info + distance (vector_of set.moduli x) (vector_of set.moduli y) ≤ length set.moduli = omega (arith, count_of_moduli set rules) in
    let at = λ (ms : List ℕ). set.info + distance (vector_of ms x) (vector_of ms y) ≤ length ms in
    same_from_part_distance set (all_kept set.moduli) x y rules in_x in_y (subst at (sym (part-all_kept set.moduli)) enough)

-- and for all but one
same_from_distance_of_rest : (set : ModuliSet) (i : ℕ) (x y : ℤ) → IsModuliSet set → IsInRange set x → IsInRange set y → distance (remove (vector_of set.moduli x) i) (remove (vector_of set.moduli y) i) ≤ 2 * radius set → x ≡ y
same_from_distance_of_rest set i x y rules in_x in_y near =
    let apart : distance (vector_of (remove set.moduli i) x) (vector_of (remove set.moduli i) y) ≤ 2 * radius set = rw (← remove-map (residue x) set.moduli i, ← remove-map (residue y) set.moduli i) near in
    let enough : set.info + distance (vector_of (remove set.moduli i) x) (vector_of (remove set.moduli i) y) ≤ length (remove set.moduli i) = omega (arith, apart, count_of_moduli set rules, length-remove_least set.moduli i) in
    let at = λ (ms : List ℕ). set.info + distance (vector_of ms x) (vector_of ms y) ≤ length ms in
    same_from_part_distance set (all_but set.moduli i) x y rules in_x in_y (subst at (sym (part-all_but set.moduli i)) enough)

-- whether a channel is erased or not
pub same_from_distance_without : (set : ModuliSet) (erased : Option ℕ) (x y : ℤ) → IsModuliSet set → IsInRange set x → IsInRange set y → distance (without erased (vector_of set.moduli x)) (without erased (vector_of set.moduli y)) ≤ 2 * radius set → x ≡ y
same_from_distance_without set None x y rules in_x in_y near = same_from_distance_of_whole set x y rules in_x in_y (omega arith)
same_from_distance_without set (Some i) x y rules in_x in_y near = same_from_distance_of_rest set i x y rules in_x in_y near

-- ---- the law, by contraposition
-- distinct integers agree in fewer places of a part than there are information moduli
pub law_of_part : (set : ModuliSet) (keeps : List Bool) (x y : ℤ) → IsModuliSet set → IsInRange set x → IsInRange set y → x ≢ y → length (part keeps set.moduli) < set.info + distance (vector_of (part keeps set.moduli) x) (vector_of (part keeps set.moduli) y)
law_of_part set keeps x y rules in_x in_y other =
    elim (cases_lt (length (part keeps set.moduli)) (set.info + distance (vector_of (part keeps set.moduli) x) (vector_of (part keeps set.moduli) y))) [
      | inl far ↦ far
      | inr near ↦ absurd (other (same_from_part_distance set keeps x y rules in_x in_y near))
    ]

-- their vectors differ in more places than there are redundant moduli
pub law_of_whole : (set : ModuliSet) (x y : ℤ) → IsModuliSet set → IsInRange set x → IsInRange set y → x ≢ y → 2 * radius set + 2 ≤ distance (vector_of set.moduli x) (vector_of set.moduli y)
law_of_whole set x y rules in_x in_y other =
    elim (cases_lt (distance (vector_of set.moduli x) (vector_of set.moduli y)) (2 * radius set + 2)) [
      | inl near ↦ absurd (other (same_from_distance_of_whole set x y rules in_x in_y (omega arith)))
      | inr far ↦ far
    ]

-- and in as many as there are redundant moduli where a channel is erased
pub law_of_erased : (set : ModuliSet) (i : ℕ) (x y : ℤ) → IsModuliSet set → IsInRange set x → IsInRange set y → x ≢ y → 2 * radius set + 1 ≤ distance (without (Some i) (vector_of set.moduli x)) (without (Some i) (vector_of set.moduli y))
law_of_erased set i x y rules in_x in_y other =
    elim (cases_lt (distance (remove (vector_of set.moduli x) i) (remove (vector_of set.moduli y) i)) (2 * radius set + 1)) [
      | inl near ↦ absurd (other (same_from_distance_of_rest set i x y rules in_x in_y (omega arith)))
      | inr far ↦ far
    ]
