-- The decimal digits at the start of a text.
use Rattle.std.proofs.Common.{◌≡◌, ℕ, ◌<◌, ◌≤◌, List, [], ◌∷◌, Bool, true, false, cond, length, take, arith, ◌∙◌, ap, sym, refl, subst, zero, suc}
use Rattle.std.specs.Char.{is_ascii_digit, digit_value}
use Rattle.std.specs.Str.Parse.{AllDigits}
use Rattle.std.specs.List.{prefix_len}
use Rattle.std.proofs.lemmas.Bool.Decides.{nat_tests}
use Rattle.std.proofs.lemmas.List.{length-take-le}
use Rattle.std.proofs.lemmas.List.Sums.{prefix_len-le-length, take_while-cons}
use Rattle.plain_text.specs.Digits.{IsWholeNumber, digit_prefix}

-- their number is at most the length, and they are that many bytes of the text
pub length-digit_prefix : (bytes : List ℕ) → length (digit_prefix bytes) ≡ prefix_len is_ascii_digit bytes
length-digit_prefix bytes = length-take-le _ bytes (prefix_len-le-length is_ascii_digit bytes)

pub length-digit_prefix-le : (bytes : List ℕ) → length (digit_prefix bytes) ≤ length bytes
length-digit_prefix-le bytes = omega (arith, length-digit_prefix bytes, prefix_len-le-length is_ascii_digit bytes)

pub digit_prefix_is : (bytes : List ℕ) → take (length (digit_prefix bytes)) bytes ≡ digit_prefix bytes
digit_prefix_is bytes = ap (λ n. take n bytes) (length-digit_prefix bytes)

pub digit_from_test : (b : ℕ) → is_ascii_digit b ≡ true → digit_value b < 10
digit_from_test b h = grind (arith, nat_tests)

pub test_from_digit : (b : ℕ) → digit_value b < 10 → is_ascii_digit b ≡ true
test_from_digit b h = grind (arith, nat_tests)

-- a digit in front is one more; anything else ends them
pub digit_prefix-digit : (b : ℕ) (bytes : List ℕ) → digit_value b < 10 → digit_prefix (b ∷ bytes) ≡ b ∷ digit_prefix bytes
digit_prefix-digit b bytes h =
    take_while-cons is_ascii_digit b bytes ∙ ap (λ t. cond t (b ∷ digit_prefix bytes) []) (test_from_digit b h)

digit_prefix-other : (b : ℕ) (bytes : List ℕ) → is_ascii_digit b ≡ false → digit_prefix (b ∷ bytes) ≡ []
digit_prefix-other b bytes h =
    take_while-cons is_ascii_digit b bytes ∙ ap (λ t. cond t (b ∷ digit_prefix bytes) []) h

-- they are digits
all_digits-step : (b : ℕ) (bytes : List ℕ) (t : Bool) → is_ascii_digit b ≡ t → AllDigits 10 (digit_prefix bytes) → AllDigits 10 (digit_prefix (b ∷ bytes))
all_digits-step b bytes true h rest =
    let digit = digit_from_test b h in
    subst (AllDigits 10) (sym (digit_prefix-digit b bytes digit)) (digit, rest)
all_digits-step b bytes false h rest = subst (AllDigits 10) (sym (digit_prefix-other b bytes h)) tt

pub all_digits-prefix : (bytes : List ℕ) → AllDigits 10 (digit_prefix bytes)
all_digits-prefix [] = tt
all_digits-prefix (b ∷ bytes) = all_digits-step b bytes _ refl (all_digits-prefix bytes)

pub whole_number-prefix : (bytes : List ℕ) → 0 < length (digit_prefix bytes) → IsWholeNumber (digit_prefix bytes)
whole_number-prefix bytes h = (h, all_digits-prefix bytes)

-- no longer prefix is
all_digits-longest : (bytes : List ℕ) (n : ℕ) → n ≤ length bytes → AllDigits 10 (take n bytes) → n ≤ length (digit_prefix bytes)
all_digits-longest bytes zero le h = omega arith
all_digits-longest [] (suc n) le h = absurd (omega arith)
all_digits-longest (b ∷ bytes) (suc n) le h =
    let rest = all_digits-longest bytes n (omega arith) h.1 in
    omega (arith, ap length (digit_prefix-digit b bytes h.0))

pub whole_number-longest : (bytes : List ℕ) (n : ℕ) → n ≤ length bytes → IsWholeNumber (take n bytes) → n ≤ length (digit_prefix bytes)
whole_number-longest bytes n le h = all_digits-longest bytes n le h.1
