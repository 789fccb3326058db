-- What the test on the numbers of a value of `Moduli` says of the set.
use Rattle.std.proofs.Common.{◌≡◌, ◌≢◌, ℕ, zero, suc, ◌+◌, ◌*◌, ◌/◌, ◌%◌, ◌^◌, ◌<◌, ◌≤◌, Bool, true, false, ◌&&◌, ◌||◌, ◌==◌, nat_lt, nat_le, List, [], ◌∷◌, length, slice_index, slice_index_or, All, sym, ap, ◌∙◌, subst, arith, length-drop, inl, inr, ℤ, pos, negsuc}
use Rattle.std.specs.List.{list_all, AllByRecursion as ByRecursion}
use Rattle.std.proofs.lemmas.Bool.{and_parts, eqb-true, ne_eqb, cases_eq, false≢true}
use Rattle.std.proofs.lemmas.List.{get_or_default, get_or-take, length-take-le}
use Rattle.std.proofs.lemmas.List.Elements.{All-from_recursion}
use borrow.Author.Tests.{ltb-true, leb-true}
use Rattle.number_theory.specs.Coprime.{inverse_of, IsCoprime, IsInverse, ArePairwiseCoprime, product}
use Rattle.number_theory.proofs.CoprimeLemmas.{IsCoprime-from_inverse, inverse_of-is}
use Rattle.moduli_sets.specs.declared.moduli.Moduli.{Moduli}
use Rattle.moduli_sets.specs.Invariant.{each_below, is_modulus_size, meets_rules, is_inverse, has_inverses, is_natural, is_consistent}
use Rattle.moduli_sets.specs.Moduli.{set_of}
use Rattle.moduli_sets.specs.Set.{ModuliSet, IsModulus, IsModuliSet, information, redundant, information_product, radius, range_bound}

-- ---- tests
each_below-at : (n : ℕ) (test : ℕ → Bool) (k : ℕ) → each_below n test ≡ true → k < n → test k ≡ true
each_below-at zero test k e h = absurd (omega arith)
each_below-at (suc n) test k e h =
    let parts = and_parts (test n) (each_below n test) e in
    elim (cases_eq k n) [ inl same ↦ ap test same ∙ parts.0 | inr other ↦ each_below-at n test k parts.1 (omega arith) ]

list_all-true : (test : ℕ → Bool) (P : ℕ → Type 0) → ((x : ℕ) → test x ≡ true → P x) → (xs : List ℕ) → list_all test xs ≡ true → ByRecursion P xs
list_all-true test P says [] e = tt
list_all-true test P says (x ∷ xs) e =
    let parts = and_parts (test x) (list_all test xs) e in
    (says x parts.0, list_all-true test P says xs parts.1)

All-from_test : (test : ℕ → Bool) (P : ℕ → Type 0) → ((x : ℕ) → test x ≡ true → P x) → (xs : List ℕ) → list_all test xs ≡ true → All P xs
All-from_test test P says xs e = All-from_recursion P xs (list_all-true test P says xs e)

IsModulus-from_test : (m : ℕ) → is_modulus_size m ≡ true → IsModulus m
IsModulus-from_test m e =
    let parts = and_parts (nat_le 2 m) (nat_le m 65535) e in
    record { at_least_two = leb-true 2 m parts.0; fits = leb-true m 65535 parts.1 }

IsInverse-from_test : (a m y : ℕ) → is_inverse a m y ≡ true → IsInverse a m y
IsInverse-from_test a m y e =
    let parts = and_parts (nat_lt y m) ((a * y) % m == 1) e in
    record { small = ltb-true y m parts.0; leaves_one = eqb-true ((a * y) % m) 1 parts.1 }

-- ---- the table of inverses
other_or : (b c : Bool) → b ≡ false → (b || c) ≡ true → c ≡ true
other_or true c f e = absurd (false≢true (sym f))
other_or false c f e = e

has_inverses-at : (moduli : List ℕ) (table : List (List ℕ)) (s i : ℕ) → has_inverses moduli table ≡ true → s ≢ i → s < length moduli → i < length moduli → IsInverse (slice_index moduli s) (slice_index moduli i) (slice_index (slice_index_or table s []) i)
has_inverses-at moduli table s i e apart s_in i_in =
    let test = λ (s i : ℕ). (s == i) || is_inverse (slice_index moduli s) (slice_index moduli i) (slice_index (slice_index_or table s []) i) in
    let row = each_below-at (length moduli) (λ s. each_below (length moduli) (test s)) s e s_in in
    let place = each_below-at (length moduli) (test s) i row i_in in
    IsInverse-from_test (slice_index moduli s) (slice_index moduli i) _ (other_or (s == i) _ (ne_eqb s i apart) place)

ArePairwiseCoprime-from_inverses : (moduli : List ℕ) (table : List (List ℕ)) → has_inverses moduli table ≡ true → ArePairwiseCoprime moduli
ArePairwiseCoprime-from_inverses moduli table e i j d below j_in =
    let i_in : i < length moduli = omega arith in
    let apart : i ≢ j = λ (same : i ≡ j). omega arith in
    let coprime : IsCoprime (slice_index moduli i) (slice_index moduli j) = IsCoprime-from_inverse _ _ _ (has_inverses-at moduli table i j e apart i_in j_in) in
    subst (λ n. IsCoprime n (slice_index_or moduli j d)) (get_or_default moduli i 0 d i_in)
    (subst (λ n. IsCoprime (slice_index moduli i) n) (get_or_default moduli j 0 d j_in) coprime)

-- ---- the rules
IsModuliSet-from_tests : (set : ModuliSet) → meets_rules set ≡ true → ArePairwiseCoprime set.moduli → IsModuliSet set × (radius set ≡ 1)
IsModuliSet-from_tests set e coprime =
    let sum = (length set.moduli == set.info + 3) in
    let four = nat_le 4 (length set.moduli) in
    let twelve = nat_le (length set.moduli) 12 in
    let fit = list_all is_modulus_size set.moduli in
    let above = λ (r : ℕ). list_all (λ m. nat_lt m r) (information set) in
    let large = list_all above (redundant set) in
    let product_fits = nat_lt (product set.moduli) (2 ^ 127) in
    let g = and_parts (sum && four && twelve && fit && large && product_fits) (nat_le 3 (information_product set)) e in
    let f = and_parts (sum && four && twelve && fit && large) product_fits g.0 in
    let l = and_parts (sum && four && twelve && fit) large f.0 in
    let m = and_parts (sum && four && twelve) fit l.0 in
    let t = and_parts (sum && four) twelve m.0 in
    let s = and_parts sum four t.0 in
    let count : length set.moduli ≡ set.info + 3 = eqb-true _ _ s.0 in
    let three : length (redundant set) ≡ 3 = length-drop set.info set.moduli ∙ omega arith in
    let one : radius set ≡ 1 = ap (λ n. n / 2) three in
    let rules : IsModuliSet set = record {
      at_least_four = leb-true 4 _ s.1;
      at_most_twelve = leb-true _ 12 t.1;
      odd = omega arith;
      radius_at_least_one = omega arith;
      radius_at_most_two = omega arith;
      moduli = All-from_test is_modulus_size IsModulus IsModulus-from_test set.moduli m.1;
      coprime = coprime;
      larger = All-from_test above (λ r. All (λ m. m < r) (information set)) (λ r. All-from_test (λ m. nat_lt m r) (λ m. m < r) (λ m. ltb-true m r) (information set)) (redundant set) l.1;
      fits = ltb-true _ _ f.1;
      wide = leb-true 3 _ g.1;
    } in
    (rules, one)

-- ---- a value of `Moduli`
pos-from_test : (z : ℤ) (n : ℕ) → is_natural z n ≡ true → z ≡ pos n
pos-from_test (pos m) n e = ap pos (eqb-true m n e)
pos-from_test (negsuc m) n e = cc

consistent_parts : (value : Moduli) → (value.count ≤ length value.moduli) × (meets_rules (set_of value) ≡ true) × (has_inverses (set_of value).moduli value.inverses ≡ true) × (value.bound ≡ pos (range_bound (set_of value)))
unfolding is_consistent
consistent_parts value =
    let short = nat_le value.count (length value.moduli) in
    let rules = meets_rules (set_of value) in
    let inverses = has_inverses (set_of value).moduli value.inverses in
    let b = and_parts (short && rules && inverses) (is_natural value.bound (range_bound (set_of value))) value.consistent in
    let i = and_parts (short && rules) inverses b.0 in
    let r = and_parts short rules i.0 in
    (leb-true _ _ r.0, r.1, i.1, pos-from_test _ _ b.1)

-- each value is a set
pub IsModuliSet-of : (value : Moduli) → IsModuliSet (set_of value)
IsModuliSet-of value =
    let parts = consistent_parts value in
    (IsModuliSet-from_tests (set_of value) parts.1 (ArePairwiseCoprime-from_inverses (set_of value).moduli value.inverses parts.2)).0

-- and corrects one wrong residue
pub radius-of : (value : Moduli) → radius (set_of value) ≡ 1
radius-of value =
    let parts = consistent_parts value in
    (IsModuliSet-from_tests (set_of value) parts.1 (ArePairwiseCoprime-from_inverses (set_of value).moduli value.inverses parts.2)).1

pub count-of : (value : Moduli) → length (set_of value).moduli ≡ value.count
count-of value = length-take-le value.count value.moduli (consistent_parts value).0

pub bound-of : (value : Moduli) → value.bound ≡ pos (range_bound (set_of value))
bound-of value = (consistent_parts value).3

pub IsInverse-of : (value : Moduli) (s i : ℕ) → s ≢ i → s < length (set_of value).moduli → i < length (set_of value).moduli → IsInverse (slice_index (set_of value).moduli s) (slice_index (set_of value).moduli i) (slice_index (slice_index_or value.inverses s []) i)
IsInverse-of value s i = has_inverses-at (set_of value).moduli value.inverses s i (consistent_parts value).2

pub inverse_of-table : (value : Moduli) (s i : ℕ) → s ≢ i → s < length (set_of value).moduli → i < length (set_of value).moduli → slice_index (slice_index_or value.inverses s []) i ≡ inverse_of (slice_index (set_of value).moduli s) (slice_index (set_of value).moduli i)
inverse_of-table value s i apart s_in i_in = sym (inverse_of-is _ _ _ (IsInverse-of value s i apart s_in i_in))

-- the moduli of the set are those of the value
pub modulus-of : (value : Moduli) (i : ℕ) → i < length (set_of value).moduli → slice_index (set_of value).moduli i ≡ slice_index value.moduli i
modulus-of value i h = get_or-take value.count value.moduli i 0 (subst (λ n. i < n) (count-of value) h)

pub IsModulus-of : (value : Moduli) (i : ℕ) → i < length (set_of value).moduli → IsModulus (slice_index value.moduli i)
IsModulus-of value i h = subst IsModulus (modulus-of value i h) ((IsModuliSet-of value).moduli i 0 h)
