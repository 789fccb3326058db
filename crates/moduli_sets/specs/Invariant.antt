-- The test that the numbers of a value of `Moduli` pass.
use Rattle.std.specs.Prelude.{ℕ, zero, suc, ◌+◌, ◌*◌, ◌%◌, ◌^◌, ℤ, pos, negsuc, Bool, true, false, ◌&&◌, ◌||◌, ◌==◌, nat_lt, nat_le, List, [], length, take, slice_index, slice_index_or}
use Rattle.std.specs.List.{list_all}
use Rattle.number_theory.specs.Coprime.{product}
use Rattle.moduli_sets.specs.Set.{ModuliSet, information, redundant, information_product, range_bound}

-- each number below n passes
abbrev pub each_below : ℕ → (ℕ → Bool) → Bool
each_below zero test = true
each_below (suc n) test = test n && each_below n test

abbrev pub is_modulus_size : ℕ → Bool
is_modulus_size m = nat_le 2 m && nat_le m 65535

-- the rules of a set with three redundant moduli, but for the one on coprime numbers
abbrev pub meets_rules : ModuliSet → Bool
meets_rules set =
    (length set.moduli == set.info + 3)
    && nat_le 4 (length set.moduli)
    && nat_le (length set.moduli) 12
    && list_all is_modulus_size set.moduli
    && list_all (λ r. list_all (λ m. nat_lt m r) (information set)) (redundant set)
    && nat_lt (product set.moduli) (2 ^ 127)
    && nat_le 3 (information_product set)

-- y is the inverse of a modulo m
abbrev pub is_inverse : ℕ → ℕ → ℕ → Bool
is_inverse a m y = nat_lt y m && ((a * y) % m == 1)

-- row s of the table has at i the inverse of number s modulo number i
abbrev pub has_inverses : List ℕ → List (List ℕ) → Bool
has_inverses moduli table =
    each_below (length moduli) (λ s. each_below (length moduli) (λ i. (s == i)
    || is_inverse (slice_index moduli s) (slice_index moduli i) (slice_index (slice_index_or table s []) i)))

abbrev pub is_natural : ℤ → ℕ → Bool
is_natural (pos n) m = n == m
is_natural (negsuc n) m = false

-- the first `count` of the numbers, `info` of them for information, their inverses and their bound
unfoldable pub is_consistent : List ℕ → ℕ → ℕ → List (List ℕ) → ℤ → Bool
is_consistent numbers count info inverses bound =
    let set : ModuliSet = record { moduli = take count numbers; info = info } in
    nat_le count (length numbers)
    && meets_rules set
    && has_inverses set.moduli inverses
    && is_natural bound (range_bound set)
