-- The number of the information residues against the integer that has them.
use Rattle.std.proofs.Common.{◌≡◌, ℕ, ◌*◌, ◌%◌, ◌<◌, ◌≤◌, Ordering, Less, Equal, Greater, List, [], ◌∷◌, map, length, take, slice_index, All, sym, ap, ◌∙◌, subst, arith, ℤ, pos, ◌≤ℤ◌, ◌<ℤ◌}
use Rattle.std.specs.Ordering.{MatchOrdering, nat_cmp, int_cmp}
use Rattle.std.specs.Cmp.{int_cmp_is}
use Rattle.std.specs.List.{range_with_len, AllByRecursion as ByRecursion}
use Rattle.std.proofs.lemmas.Cmp.{ranked}
use Rattle.std.proofs.lemmas.Int.{ints, by_lt_z}
use Rattle.std.proofs.lemmas.List.{ext_get_or, length-map, length-take-le, get_or-take, take-map}
use Rattle.std.proofs.lemmas.List.Elements.{recursion_from_All}
use Rattle.std.proofs.lemmas.List.FromFn.{length-map-range_with_len, get_or-map-range_with_len}
use Rattle.number_theory.specs.Coprime.{product}
use Rattle.number_theory.specs.Residue.{residue, AreResidues, IsNumberOf}
use Rattle.number_theory.proofs.CoprimeLemmas.{ArePairwiseCoprime-take, same_from_residues, same_from_residues_within}
use Rattle.number_theory.proofs.ResidueLemmas.{residue-below}
use Rattle.moduli_sets.specs.Set.{ModuliSet, IsInRange, IsModulus, IsModuliSet, information, information_product, range_bound}
use Rattle.moduli_sets.specs.Vector.{vector_of}
use Rattle.mixed_radix.specs.Chosen.{entries_at}
use Rattle.mixed_radix.proofs.ChosenLemmas.{info_below}

residues_of_integer : (ms : List ℕ) (x : ℤ) → ByRecursion IsModulus ms → AreResidues ms (vector_of ms x)
residues_of_integer [] x h = tt
residues_of_integer (m ∷ ms) x h =
    (residue-below x m (omega (arith, h.0.at_least_two)), residues_of_integer ms x h.1)

-- the vector of an integer has a residue for each modulus
pub AreResidues-vector_of : (ms : List ℕ) (x : ℤ) → All IsModulus ms → AreResidues ms (vector_of ms x)
AreResidues-vector_of ms x h = residues_of_integer ms x (recursion_from_All IsModulus ms h)

-- what stands at the first channels
pub entries_at-range : (n : ℕ) (xs : List ℕ) → n ≤ length xs → entries_at (range_with_len 0 n) xs ≡ take n xs
entries_at-range n xs h =
    let size = length-map-range_with_len (slice_index xs) 0 n in
    ext_get_or 0 (entries_at (range_with_len 0 n) xs) (take n xs) (size ∙ sym (length-take-le n xs h))
    (λ k in'. let k_below : k < n = omega arith in
    get_or-map-range_with_len (slice_index xs) 0 n k k 0 k_below (omega arith) ∙ sym (get_or-take n xs k 0 k_below))

-- n is below the product of the information moduli and has the integer's residues for them
pub record HasInformation (set : ModuliSet) (x : ℤ) (n : ℕ) : Type 0 where
  pub small : n < information_product set
  pub same : map (residue (pos n)) (information set) ≡ map (residue x) (information set)

pub HasInformation-from_number : (set : ModuliSet) (which v : List ℕ) (x : ℤ) (n : ℕ) → IsModuliSet set → which ≡ range_with_len 0 set.info → v ≡ vector_of set.moduli x → IsNumberOf (entries_at which set.moduli) (entries_at which v) n → HasInformation set x n
HasInformation-from_number set which v x n rules is v_is number =
    let first = range_with_len 0 set.info in
    let within : set.info ≤ length set.moduli = omega (arith, info_below set rules) in
    let size = length-map set.moduli (residue x) in
    let front : entries_at which set.moduli ≡ information set = ap (λ w. entries_at w set.moduli) is ∙ entries_at-range set.info set.moduli within in
    let parts : entries_at which v ≡ vector_of (information set) x =
    ap (λ w. entries_at w v) is ∙ ap (entries_at first) v_is ∙ entries_at-range set.info (vector_of set.moduli x) (omega arith) ∙ take-map (residue x) set.info set.moduli in
    record {
      small = subst (λ ms. n < product ms) front number.small;
      same = subst (λ ms. map (λ m. n % m) ms ≡ vector_of (information set) x) front (number.residues ∙ parts);
    }

-- an integer from 0 up is that number
natural_number : (set : ModuliSet) (x : ℤ) (n : ℕ) → IsModuliSet set → IsInRange set x → HasInformation set x n → pos 0 ≤ℤ x → x ≡ pos n
natural_number set x n rules in' number natural =
    let coprime = ArePairwiseCoprime-take set.info set.moduli rules.coprime in
    let wide : 2 * range_bound set < information_product set = omega (arith, rules.wide) in
    let small = number.small in
    let high = in'.high in
    by_lt_z (pos n) x
    (λ below. sym (same_from_residues (information set) (pos n) x coprime number.same (omega (arith, ints)) (omega (arith, ints))))
    (λ above. same_from_residues (information set) x (pos n) coprime (sym number.same) above (omega (arith, ints)))

-- above the bound the number stands for an integer below 0
pub Less-above_bound : (set : ModuliSet) (x : ℤ) (n : ℕ) → IsModuliSet set → IsInRange set x → HasInformation set x n → range_bound set < n → Less ≡ int_cmp x (pos 0)
Less-above_bound set x n rules in' number above =
    let negative : x <ℤ pos 0 =
    by_lt_z x (pos 0) (λ below. below) (λ natural. let same = natural_number set x n rules in' number natural in let high = in'.high in absurd (omega (arith, ints))) in
    int_cmp_is x (pos 0) Less negative

match_pos : (r : Ordering) (n k : ℕ) → MatchOrdering r (n < k) (n ≡ k) (k < n) → MatchOrdering r (pos n <ℤ pos k) (pos n ≡ pos k) (pos k <ℤ pos n)
match_pos Less n k h = omega (arith, ints)
match_pos Equal n k h = ap pos h
match_pos Greater n k h = omega (arith, ints)

-- and else it is the integer
pub int_cmp-within_bound : (set : ModuliSet) (x : ℤ) (n : ℕ) (r : Ordering) → IsModuliSet set → IsInRange set x → HasInformation set x n → n ≤ range_bound set → r ≡ nat_cmp n 0 → r ≡ int_cmp x (pos 0)
int_cmp-within_bound set x n r rules in' number within e =
    let coprime = ArePairwiseCoprime-take set.info set.moduli rules.coprime in
    let wide : 2 * range_bound set < information_product set = omega (arith, rules.wide) in
    let same = same_from_residues_within (information set) (range_bound set) x (pos n) coprime (sym number.same) wide in'.low in'.high (omega (arith, ints)) (omega (arith, ints)) in
    subst (λ z. r ≡ int_cmp z (pos 0)) (sym same) (int_cmp_is (pos n) (pos 0) r (match_pos r n 0 (ranked n 0 r e)))
