-- Vectors of integers: which integers have the same one, and what sums, differences and products have.
use Rattle.std.proofs.Common.{◌≡◌, ℕ, ◌+◌, ◌*◌, ◌%◌, ◌<◌, List, [], ◌∷◌, take, map, All, refl, sym, ap, ◌∙◌, arith, ℤ, pos, ◌+ℤ◌, ◌-ℤ◌, ◌*ℤ◌}
use Rattle.std.specs.List.{AllByRecursion as ByRecursion}
use Rattle.std.proofs.lemmas.List.{take-map}
use Rattle.std.proofs.lemmas.List.Elements.{All-weaker, recursion_from_All}
use Rattle.number_theory.specs.Residue.{residue}
use Rattle.number_theory.proofs.CoprimeLemmas.{ArePairwiseCoprime-take, same_from_residues_within}
use Rattle.number_theory.proofs.ResidueLemmas.{residue-add, residue-sub, residue-mul}
use Rattle.moduli_sets.specs.Set.{ModuliSet, IsInRange, IsModulus, IsModuliSet, information, information_product, range_bound}
use Rattle.moduli_sets.specs.Vector.{vector_of}

-- integers in range with equal residues for the information moduli are equal
pub same_from_information : (set : ModuliSet) (x y : ℤ) → IsModuliSet set → IsInRange set x → IsInRange set y → vector_of (information set) x ≡ vector_of (information set) y → x ≡ y
same_from_information set x y rules in_x in_y e =
    let coprime = ArePairwiseCoprime-take set.info set.moduli rules.coprime in
    let wide : 2 * range_bound set < information_product set = omega (arith, rules.wide) in
    same_from_residues_within (information set) (range_bound set) x y coprime e wide in_x.low in_x.high in_y.low in_y.high

-- and so are integers in range with equal vectors
pub same_from_vectors : (set : ModuliSet) (x y : ℤ) → IsModuliSet set → IsInRange set x → IsInRange set y → vector_of set.moduli x ≡ vector_of set.moduli y → x ≡ y
same_from_vectors set x y rules in_x in_y e =
    let front = λ (z : ℤ). take-map (residue z) set.info set.moduli in
    same_from_information set x y rules in_x in_y (sym (front x) ∙ ap (take set.info) e ∙ front y)

map_agree : (f g : ℕ → ℕ) (ms : List ℕ) → ByRecursion (λ m. f m ≡ g m) ms → map f ms ≡ map g ms
map_agree f g [] h = refl
map_agree f g (m ∷ ms) h = let head = h.0 in let tail = map_agree f g ms h.1 in cc

agree : (f g : ℕ → ℕ) (ms : List ℕ) → ((m : ℕ) → 0 < m → f m ≡ g m) → All IsModulus ms → map f ms ≡ map g ms
agree f g ms same h =
    map_agree f g ms (recursion_from_All (λ m. f m ≡ g m) ms (All-weaker IsModulus (λ m. f m ≡ g m) (λ m k. same m (omega arith)) ms h))

-- the operations act on each residue
pub vector_of-add : (ms : List ℕ) (x y : ℤ) → All IsModulus ms → vector_of ms (x +ℤ y) ≡ map (λ m. (residue x m + residue y m) % m) ms
vector_of-add ms x y = agree (residue (x +ℤ y)) (λ m. (residue x m + residue y m) % m) ms (residue-add x y)

pub vector_of-sub : (ms : List ℕ) (x y : ℤ) → All IsModulus ms → vector_of ms (x -ℤ y) ≡ map (λ m. residue (pos (residue x m) -ℤ pos (residue y m)) m) ms
vector_of-sub ms x y = agree (residue (x -ℤ y)) (λ m. residue (pos (residue x m) -ℤ pos (residue y m)) m) ms (residue-sub x y)

pub vector_of-mul : (ms : List ℕ) (x y : ℤ) → All IsModulus ms → vector_of ms (x *ℤ y) ≡ map (λ m. (residue x m * residue y m) % m) ms
vector_of-mul ms x y = agree (residue (x *ℤ y)) (λ m. (residue x m * residue y m) % m) ms (residue-mul x y)
