-- One step of Horner's rule with remainders.
use Rattle.std.proofs.Common.{◌≡◌, ℕ, ◌+◌, ◌-◌, ◌*◌, ◌%◌, ◌<◌, ◌≤◌, List, length, drop, get_or, sym, ap, ◌∙◌, arith}
use Rattle.std.proofs.lemmas.Nat.{mul-mod}
use Rattle.std.proofs.Math.Nat.{mod-add-mod, mod-lt, mul-le-mul}
use Rattle.number_theory.specs.Residue.{AreResidues}
use Rattle.mixed_radix.specs.Digits.{digits_value}
use Rattle.mixed_radix.specs.Chosen.{entries_at}
use Rattle.mixed_radix.proofs.ChosenLemmas.{get_or-entries_at, length-entries_at}
use Rattle.mixed_radix.proofs.DigitLemmas.{AreResidues-at}
use Rattle.mixed_radix.proofs.ValueLemmas.{value_more}

-- d + m * v from the remainders of v and m
mod-step : (v m d p : ℕ) → (v % p * (m % p) + d) % p ≡ (d + m * v) % p
mod-step v m d p =
    let turned : v * m + d ≡ d + m * v = omega arith in
    sym (mod-add-mod (v % p * (m % p)) p d) ∙ ap (λ x. (x + d) % p) (sym (mul-mod v m p)) ∙ mod-add-mod (v * m) p d ∙ ap (λ x. x % p) turned

-- one digit more
pub mod-value_more : (which ms ds : List ℕ) (n p : ℕ) → 0 < n → n ≤ length which → AreResidues (entries_at which ms) ds → (digits_value (drop n (entries_at which ms)) (drop n ds) % p * (get_or ms (get_or which (n - 1) 0) 0 % p) + get_or ds (n - 1) 0) % p ≡ digits_value (drop (n - 1) (entries_at which ms)) (drop (n - 1) ds) % p
mod-value_more which ms ds n p positive in' h =
    mod-step (digits_value (drop n (entries_at which ms)) (drop n ds)) (get_or ms (get_or which (n - 1) 0) 0) (get_or ds (n - 1) 0) p ∙ ap (λ x. x % p) (sym (value_more which ms ds n positive in' h))

-- a digit is below the modulus of its channel
pub digit_below : (which ms ds : List ℕ) (k : ℕ) → k < length which → AreResidues (entries_at which ms) ds → get_or ds k 0 < get_or ms (get_or which k 0) 0
digit_below which ms ds k in' h =
    omega (arith, length-entries_at which ms, get_or-entries_at which ms k in', AreResidues-at (entries_at which ms) ds k h (omega (arith, length-entries_at which ms)))

-- two remainders by a number of 16 bits have a product that leaves room for a digit in 32 bits
pub remainders_fit : (a b p : ℕ) → 1 ≤ p → p ≤ 65535 → a % p * (b % p) ≤ 65534 * 65534
remainders_fit a b p positive fits =
    mul-le-mul {n₂ = 65534} {m₂ = 65534} (omega (arith, mod-lt a positive)) (omega (arith, mod-lt b positive))
