-- Intervals within the range of `pocket`, and what 128 bits hold of their sums, differences and products.
use Rattle.std.proofs.Common.{◌≡◌, ◌≤◌, true, arith, ℤ, negsuc, pos, ◌+ℤ◌, ◌-ℤ◌, ◌*ℤ◌, ◌≤ℤ◌, unsigned_abs, to_z, of_z, FitsSigned}
use Rattle.std.specs.Int.{w128, int_min, int_max}
use Rattle.std.proofs.lemmas.Int.{ints, to_z-of_z, fits_signed_mul}
use Rattle.thin_source.specs.declared.interval.Interval.{Interval}
use Rattle.thin_source.specs.Interval.{interval_sum, interval_difference, interval_product, is_within}
use Rattle.thin_source.specs.ThinRules.{pocket_range}

-- its ends are at most 97 from 0
pub ends_within : (i : Interval) → is_within i pocket_range ≡ true → (unsigned_abs i.low ≤ 97) × (unsigned_abs i.high ≤ 97)
ends_within i h =
    let low : negsuc 96 ≤ℤ i.low = grind (arith, ints) in
    let order : i.low ≤ℤ i.high = grind (arith, ints) in
    let high : i.high ≤ℤ pos 97 = grind (arith, ints) in
    (omega (arith, ints), omega (arith, ints))

-- what 128 bits hold of a number
abbrev pub held : ℤ → ℤ
held z = to_z w128 (of_z w128 z)

abbrev pub held_interval : ℤ → ℤ → Interval
held_interval low high = record { low = held low; high = held high }

held_small : (z : ℤ) → unsigned_abs z ≤ 97 → held z ≡ z
held_small z h = let fits : FitsSigned w128 z = omega (arith, ints) in to_z-of_z w128 z fits

held_sum : (a b : ℤ) → unsigned_abs a ≤ 97 → unsigned_abs b ≤ 97 → held (held a +ℤ held b) ≡ a +ℤ b
held_sum a b ha hb =
    let fits : FitsSigned w128 (a +ℤ b) = omega (arith, ints) in
    rw (held_small a ha, held_small b hb) (to_z-of_z w128 (a +ℤ b) fits)

held_difference : (a b : ℤ) → unsigned_abs a ≤ 97 → unsigned_abs b ≤ 97 → held (held a -ℤ held b) ≡ a -ℤ b
held_difference a b ha hb =
    let fits : FitsSigned w128 (a -ℤ b) = omega (arith, ints) in
    rw (held_small a ha, held_small b hb) (to_z-of_z w128 (a -ℤ b) fits)

held_product : (a b : ℤ) → unsigned_abs a ≤ 97 → unsigned_abs b ≤ 97 → held (held a *ℤ held b) ≡ a *ℤ b
held_product a b ha hb =
    let fits : FitsSigned w128 (a *ℤ b) = fits_signed_mul w128 a b 97 97 ha hb (omega arith) in
    rw (held_small a ha, held_small b hb) (to_z-of_z w128 (a *ℤ b) fits)

pub held_interval_sum : (i j : Interval) → is_within i pocket_range ≡ true → is_within j pocket_range ≡ true → held_interval (held i.low +ℤ held j.low) (held i.high +ℤ held j.high) ≡ interval_sum i j
held_interval_sum i j hi hj =
    let low = held_sum i.low j.low (ends_within i hi).0 (ends_within j hj).0 in
    let high = held_sum i.high j.high (ends_within i hi).1 (ends_within j hj).1 in
    rw (low, high)

pub held_interval_difference : (i j : Interval) → is_within i pocket_range ≡ true → is_within j pocket_range ≡ true → held_interval (held i.low -ℤ held j.high) (held i.high -ℤ held j.low) ≡ interval_difference i j
held_interval_difference i j hi hj =
    let low = held_difference i.low j.high (ends_within i hi).0 (ends_within j hj).1 in
    let high = held_difference i.high j.low (ends_within i hi).1 (ends_within j hj).0 in
    rw (low, high)

-- p to r are what the code takes for the least of the four products, s to u for the greatest
pub held_interval_product : (i j : Interval) (p q r s t u : ℤ) → is_within i pocket_range ≡ true → is_within j pocket_range ≡ true → FitsSigned w128 p → FitsSigned w128 q → FitsSigned w128 r → FitsSigned w128 s → FitsSigned w128 t → FitsSigned w128 u → p ≡ int_min (held (held i.low *ℤ held j.low)) (held (held i.low *ℤ held j.high)) → q ≡ int_min (held (held i.high *ℤ held j.low)) (held (held i.high *ℤ held j.high)) → r ≡ int_min (held p) (held q) → s ≡ int_max (held (held i.low *ℤ held j.low)) (held (held i.low *ℤ held j.high)) → t ≡ int_max (held (held i.high *ℤ held j.low)) (held (held i.high *ℤ held j.high)) → u ≡ int_max (held s) (held t) → held_interval r u ≡ interval_product i j
unfolding interval_product
held_interval_product i j p q r s t u hi hj fp fq fr fs ft fu ep eq er es et eu =
    let a = held_product i.low j.low (ends_within i hi).0 (ends_within j hj).0 in
    let b = held_product i.low j.high (ends_within i hi).0 (ends_within j hj).1 in
    let c = held_product i.high j.low (ends_within i hi).1 (ends_within j hj).0 in
    let d = held_product i.high j.high (ends_within i hi).1 (ends_within j hj).1 in
    let hp = to_z-of_z w128 p fp in
    let hq = to_z-of_z w128 q fq in
    let hr = to_z-of_z w128 r fr in
    let hs = to_z-of_z w128 s fs in
    let ht = to_z-of_z w128 t ft in
    let hu = to_z-of_z w128 u fu in
    cc
