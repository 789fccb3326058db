-- Integers less than the information product apart from 0: few differing residues make them equal.
use Rattle.std.proofs.Common.{◌≡◌, ◌≢◌, ℕ, zero, suc, ◌+◌, ◌-◌, ◌*◌, ◌<◌, ◌≤◌, Bool, true, false, List, [], ◌∷◌, length, get_or, refl, ap, subst, arith, ℤ, pos, neg_ℤ, ◌≤ℤ◌, length-drop}
use Rattle.std.specs.List.{remove, AllByRecursion as ByRecursion}
use Rattle.std.proofs.lemmas.List.Elements.{All-weaker, recursion_from_All}
use Rattle.std.proofs.Math.Nat.{mul-le-mul_right}
use Rattle.number_theory.specs.Coprime.{product}
use Rattle.number_theory.specs.Residue.{residue}
use Rattle.number_theory.proofs.CoprimeLemmas.{same_from_residues_within}
use Rattle.moduli_sets.specs.Set.{ModuliSet, IsModulus, IsModuliSet, radius, information_product}
use Rattle.moduli_sets.specs.Vector.{vector_of}
use Rattle.number_theory.specs.Distance.{distance}
use Rattle.redundant_decoder.specs.Nearest.{part}
use Rattle.redundant_decoder.proofs.PartLemmas.{ArePairwiseCoprime-part, agreeing_places, length-agreeing, map-agreeing, all_kept, part-all_kept}
use Rattle.redundant_decoder.proofs.LawLemmas.{product_of_part}

-- x lies between -M and M
pub record IsWide (set : ModuliSet) (x : ℤ) : Type 0 where
  pub low : neg_ℤ (pos (information_product set - 1)) ≤ℤ x
  pub high : x ≤ℤ pos (information_product set - 1)

-- a part without its first member
pub part-shorter : (keeps : List Bool) (ms : List ℕ) → ByRecursion (λ m. 2 ≤ m) ms → 0 < length (part keeps ms) → (ks : List Bool) × (suc (length (part ks ms)) ≡ length (part keeps ms)) × (2 * product (part ks ms) ≤ product (part keeps ms))
part-shorter [] ms h some = absurd (omega arith)
part-shorter (keep ∷ keeps) [] h some = absurd (omega arith)
part-shorter (true ∷ keeps) (m ∷ ms) h some = (false ∷ keeps, refl, mul-le-mul_right (product (part keeps ms)) h.0)
part-shorter (false ∷ keeps) (m ∷ ms) h some =
    let t = part-shorter keeps ms h.1 some in
    (false ∷ t.0, t.1, t.2)

-- a part with one member more than there are information moduli has twice their product
pub product_of_more : (set : ModuliSet) (keeps : List Bool) → IsModuliSet set → set.info < length (part keeps set.moduli) → 2 * information_product set ≤ product (part keeps set.moduli)
product_of_more set keeps rules many =
    let two = recursion_from_All (λ m. 2 ≤ m) set.moduli (All-weaker IsModulus (λ m. 2 ≤ m) (λ m h. h.at_least_two) set.moduli rules.moduli) in
    let t = part-shorter keeps set.moduli two (omega arith) in
    let enough : set.info ≤ length (part t.0 set.moduli) = omega (arith, t.1) in
    omega (arith, t.2, product_of_part set t.0 rules enough)

-- integers between -M and M that differ in as few places as there are redundant moduli, less one, are equal
pub same_from_distance_wide : (set : ModuliSet) (x y : ℤ) → IsModuliSet set → IsWide set x → IsWide set y → distance (vector_of set.moduli x) (vector_of set.moduli y) ≤ 2 * radius set → x ≡ y
same_from_distance_wide set x y rules in_x in_y near =
    let ms = set.moduli in
    let agree = agreeing_places (all_kept ms) (residue x) (residue y) ms in
    let at = λ (ns : List ℕ). length (part agree ms) + distance (vector_of ns x) (vector_of ns y) ≡ length ns in
    let count = subst at (part-all_kept ms) (length-agreeing (all_kept ms) (residue x) (residue y) ms) in
    let size : length ms ≡ set.info + (2 * radius set + 1) = omega (arith, rules.odd, length-drop set.info ms) in
    let many : set.info < length (part agree ms) = omega (arith, count, size) in
    let wide : 2 * (information_product set - 1) < product (part agree ms) = omega (arith, rules.wide, product_of_more set agree rules many) in
    same_from_residues_within (part agree ms) (information_product set - 1) x y (ArePairwiseCoprime-part agree ms rules.coprime) (map-agreeing (all_kept ms) (residue x) (residue y) ms) wide in_x.low in_x.high in_y.low in_y.high

-- ---- places
-- lists that agree at every place but one
pub remove_from_places : (xs ys : List ℕ) (c : ℕ) → length xs ≡ length ys → ((j : ℕ) → j < length xs → j ≢ c → get_or xs j 0 ≡ get_or ys j 0) → remove xs c ≡ remove ys c
remove_from_places [] [] c e same = refl
remove_from_places [] (y ∷ ys) c e same = absurd (omega arith)
remove_from_places (x ∷ xs) [] c e same = absurd (omega arith)
remove_from_places (x ∷ xs) (y ∷ ys) zero e same = same_lists xs ys (omega arith) (λ j h. same (suc j) (omega arith) (λ z. absurd (omega (arith, z))))
  where
    same_lists : (xs ys : List ℕ) → length xs ≡ length ys → ((j : ℕ) → j < length xs → get_or xs j 0 ≡ get_or ys j 0) → xs ≡ ys
    same_lists [] [] e same = refl
    same_lists [] (y ∷ ys) e same = absurd (omega arith)
    same_lists (x ∷ xs) [] e same = absurd (omega arith)
    same_lists (x ∷ xs) (y ∷ ys) e same =
        let head : x ≡ y = same 0 (omega arith) in
        let tail : xs ≡ ys = same_lists xs ys (omega arith) (λ j h. same (suc j) (omega arith)) in
        cc
remove_from_places (x ∷ xs) (y ∷ ys) (suc c) e same =
    let head : x ≡ y = same 0 (omega arith) (λ z. absurd (omega (arith, z))) in
    let tail : remove xs c ≡ remove ys c = remove_from_places xs ys c (omega arith) (λ j h other. same (suc j) (omega arith) (λ z. other (omega (arith, z)))) in
    cc

-- and the other way round
pub places_from_remove : (xs ys : List ℕ) (c : ℕ) → length xs ≡ length ys → remove xs c ≡ remove ys c → (j : ℕ) → j < length xs → j ≢ c → get_or xs j 0 ≡ get_or ys j 0
places_from_remove [] ys c e same j h other = absurd (omega arith)
places_from_remove (x ∷ xs) [] c e same j h other = absurd (omega arith)
places_from_remove (x ∷ xs) (y ∷ ys) zero e same zero h other = absurd (other refl)
places_from_remove (x ∷ xs) (y ∷ ys) zero e same (suc j) h other = let tail : xs ≡ ys = same in ap (λ zs. get_or zs j 0) tail
places_from_remove (x ∷ xs) (y ∷ ys) (suc c) e same zero h other = let head : x ≡ y = cc in head
places_from_remove (x ∷ xs) (y ∷ ys) (suc c) e same (suc j) h other =
    let tail : remove xs c ≡ remove ys c = cc in
    places_from_remove xs ys c (omega arith) tail j (omega arith) (λ z. other (ap suc z))

pub lists_from_places : (xs ys : List ℕ) → length xs ≡ length ys → ((j : ℕ) → j < length xs → get_or xs j 0 ≡ get_or ys j 0) → xs ≡ ys
lists_from_places [] [] e same = refl
lists_from_places [] (y ∷ ys) e same = absurd (omega arith)
lists_from_places (x ∷ xs) [] e same = absurd (omega arith)
lists_from_places (x ∷ xs) (y ∷ ys) e same =
    let head : x ≡ y = same 0 (omega arith) in
    let tail : xs ≡ ys = lists_from_places xs ys (omega arith) (λ j h. same (suc j) (omega arith)) in
    cc
