-- Choices of channels, and what stands at the chosen channels.
use Rattle.std.proofs.Common.{◌≡◌, ℕ, zero, suc, ◌+◌, ◌<◌, ◌≤◌, List, [], ◌∷◌, ◌++◌, length, take, drop, get_or, slice_index, All, sym, ap, ◌∙◌, subst, inl, inr, arith}
use Rattle.std.specs.Int.{◌∣◌}
use Rattle.std.specs.List.{range_with_len, remove, AllByRecursion as ByRecursion}
use Rattle.std.specs.List.Sorted.{IsStrictlyIncreasing}
use Rattle.std.proofs.lemmas.Bool.{cases_lt}
use Rattle.std.proofs.lemmas.List.{get_or-map, length-map, length-drop, map-id}
use Rattle.std.proofs.lemmas.List.Edits.{length-remove, get_or-remove_below, get_or-remove_above}
use Rattle.std.proofs.lemmas.List.Elements.{All-weaker, All-map, All-append, All-take, All-drop, recursion_from_All}
use Rattle.std.proofs.lemmas.List.FromFn.{length-range_with_len, get_or-range_with_len, map-range_with_len_more}
use Rattle.std.proofs.lemmas.List.Kept.{AllPairs-from_increasing}
use Rattle.std.proofs.lemmas.Nat.Gcd.{le_of_dvd}
use Rattle.std.proofs.Math.Nat.{dvd-mul_right, dvd-mul_left_of_dvd, mul-pos}
use Rattle.number_theory.specs.Coprime.{IsCoprime, ArePairwiseCoprime, product}
use Rattle.number_theory.specs.Residue.{AreResidues}
use Rattle.number_theory.proofs.CoprimeLemmas.{product-dvd}
use Rattle.moduli_sets.specs.Set.{ModuliSet, IsModulus, IsModuliSet}
use Rattle.mixed_radix.specs.Chosen.{IsChoice, AreBelow, entries_at}
use Rattle.mixed_radix.proofs.DigitLemmas.{AreResidues-at, AreResidues-from_places}

-- ---- the first channels, and all but one
pub IsChoice-range : (n : ℕ) → 0 < n → n ≤ 12 → IsChoice (range_with_len 0 n)
IsChoice-range n some few =
    let size = length-range_with_len 0 n in
    record {
      some = omega arith;
      few = omega arith;
      ascending = λ k h. omega (arith, get_or-range_with_len 0 n k 0 (omega arith), get_or-range_with_len 0 n (k + 1) 0 (omega arith));
    }

-- one channel more
pub range_more : (n : ℕ) → range_with_len 0 (n + 1) ≡ range_with_len 0 n ++ n ∷ []
range_more n =
    sym (map-id (range_with_len 0 (n + 1))) ∙ map-range_with_len_more (λ k. k) 0 n n (omega arith) ∙ ap (λ xs. xs ++ n ∷ []) (map-id (range_with_len 0 n))

product_one_some : (n : ℕ) (ms : List ℕ) → 3 ≤ product (take n ms) → 0 < n
product_one_some zero ms h = absurd (omega arith)
product_one_some (suc n) ms h = omega arith

-- a set has information channels, and others
pub info_some : (set : ModuliSet) → IsModuliSet set → 0 < set.info
info_some set rules = product_one_some set.info set.moduli rules.wide

pub info_below : (set : ModuliSet) → IsModuliSet set → set.info < length set.moduli
info_below set rules = omega (arith, length-drop set.info set.moduli, rules.odd)

IsStrictlyIncreasing-remove : (xs : List ℕ) (i : ℕ) → i < length xs → IsStrictlyIncreasing xs → IsStrictlyIncreasing (remove xs i)
IsStrictlyIncreasing-remove xs i in' h k k_in =
    let size = length-remove xs i in' in
    let below = λ (j : ℕ) (l : j < i). get_or-remove_below xs i 0 j l in' in
    let above = λ (j : ℕ) (l : i ≤ j). get_or-remove_above xs i 0 j l in' in
    let here = h k (omega arith) in
    let next = h (k + 1) (omega arith) in
    elim (cases_lt k i) [
      | inl low ↦ elim (cases_lt (k + 1) i) [
        | inl lower ↦ omega (arith, below k low, below (k + 1) lower, here)
        | inr at ↦ omega (arith, below k low, above (k + 1) at, here, next)
      ]
      | inr high ↦ omega (arith, above k high, above (k + 1) (omega arith), next)
    ]

pub IsChoice-remove : (xs : List ℕ) (i : ℕ) → i < length xs → 1 < length xs → IsChoice xs → IsChoice (remove xs i)
IsChoice-remove xs i in' two h =
    let size = length-remove xs i in' in
    record {
      some = omega arith;
      few = omega (arith, h.few);
      ascending = IsStrictlyIncreasing-remove xs i in' h.ascending;
    }

pub AreBelow-range : (count n : ℕ) → n ≤ count → AreBelow count (range_with_len 0 n)
AreBelow-range count n h k d k_in =
    let k_below : k < n = omega (arith, length-range_with_len 0 n) in
    omega (arith, get_or-range_with_len 0 n k d k_below)

pub AreBelow-remove : (count : ℕ) (which : List ℕ) (i : ℕ) → AreBelow count which → AreBelow count (remove which i)
AreBelow-remove count which i h =
    All-append (λ c. c < count) (take i which) (drop (suc i) which) (All-take (λ c. c < count) i which h) (All-drop (λ c. c < count) (suc i) which h)

-- ---- what stands at the chosen channels
pub get_or-entries_at : (which xs : List ℕ) (k : ℕ) → k < length which → get_or (entries_at which xs) k 0 ≡ get_or xs (get_or which k 0) 0
get_or-entries_at which xs k h = get_or-map (slice_index xs) which k 0 0 h

pub length-entries_at : (which xs : List ℕ) → length (entries_at which xs) ≡ length which
length-entries_at which xs = length-map which (slice_index xs)

pub channels_ascend : (which : List ℕ) (i j : ℕ) → IsChoice which → i < j → j < length which → get_or which i 0 < get_or which j 0
channels_ascend which i j h order j_in = AllPairs-from_increasing which h.ascending i j 0 order j_in

pub AreResidues-entries_at : (which ms rs : List ℕ) → AreBelow (length ms) which → AreResidues ms rs → AreResidues (entries_at which ms) (entries_at which rs)
AreResidues-entries_at which ms rs below h =
    let size = length-entries_at which ms in
    AreResidues-from_places (entries_at which ms) (entries_at which rs) (length-entries_at which rs ∙ sym size)
    (λ k k_in. let k_which : k < length which = omega arith in
    omega (arith, get_or-entries_at which ms k k_which, get_or-entries_at which rs k k_which, AreResidues-at ms rs (get_or which k 0) h (below k 0 k_which)))

pub ArePairwiseCoprime-entries_at : (which ms : List ℕ) → IsChoice which → AreBelow (length ms) which → ArePairwiseCoprime ms → ArePairwiseCoprime (entries_at which ms)
ArePairwiseCoprime-entries_at which ms choice below h i j d order j_in =
    let size = length-entries_at which ms in
    let j_which : j < length which = omega arith in
    let i_which : i < length which = omega arith in
    let at_i = get_or-map (slice_index ms) which i 0 d i_which in
    let at_j = get_or-map (slice_index ms) which j 0 d j_which in
    let coprime = h (get_or which i 0) (get_or which j 0) 0 (channels_ascend which i j choice order j_which) (below j 0 j_which) in
    subst (λ a. IsCoprime a (get_or (entries_at which ms) j d)) (sym at_i)
    (subst (λ b. IsCoprime (get_or ms (get_or which i 0) 0) b) (sym at_j) coprime)

-- ---- the product of chosen moduli
dvd-product : (ms : List ℕ) (k : ℕ) → k < length ms → get_or ms k 0 ∣ product ms
dvd-product [] k h = absurd (omega arith)
dvd-product (m ∷ ms) zero h = dvd-mul_right m (product ms)
dvd-product (m ∷ ms) (suc k) h = dvd-mul_left_of_dvd (get_or ms k 0) (dvd-product ms k (omega arith)) m

product_positive : (ms : List ℕ) → ByRecursion IsModulus ms → 0 < product ms
product_positive [] h = omega arith
product_positive (m ∷ ms) h =
    let positive : 0 < m = omega (arith, h.0.at_least_two) in
    mul-pos positive (product_positive ms h.1)

-- is at most the product of all
pub product-entries_at_le : (which ms : List ℕ) → IsChoice which → AreBelow (length ms) which → ArePairwiseCoprime ms → All IsModulus ms → product (entries_at which ms) ≤ product ms
product-entries_at_le which ms choice below coprime moduli =
    let each : All (λ c. get_or ms c 0 ∣ product ms) which =
    All-weaker (λ c. c < length ms) (λ c. get_or ms c 0 ∣ product ms) (dvd-product ms) which below in
    let divides = product-dvd (entries_at which ms) (product ms) (ArePairwiseCoprime-entries_at which ms choice below coprime) (All-map (λ m. m ∣ product ms) (slice_index ms) which each) in
    le_of_dvd (product_positive ms (recursion_from_All IsModulus ms moduli)) divides
