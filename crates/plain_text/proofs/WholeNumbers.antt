-- Texts that are decimal digits and nothing else.
use Rattle.std.proofs.Common.{◌≡◌, ℕ, ◌<◌, List, [], ◌∷◌, true, length, take, arith, ◌∙◌, ap, sym, refl, subst}
use Rattle.std.specs.Char.{is_ascii_digit}
use Rattle.std.specs.List.{list_all}
use Rattle.std.specs.Str.Parse.{AllDigits}
use Rattle.std.proofs.lemmas.Bool.Decides.{nat_tests}
use Rattle.std.proofs.Math.Seq.{take-length}
use Rattle.plain_text.specs.Digits.{IsWholeNumber, digit_prefix}
use Rattle.plain_text.proofs.DigitPrefix.{digit_prefix_is, length-digit_prefix-le, whole_number-prefix, whole_number-longest}

-- bytes that are all digits at the start are a number, and a number's are
pub whole_number-by_count : (bytes : List ℕ) → 0 < length bytes → length (digit_prefix bytes) ≡ length bytes → IsWholeNumber bytes
whole_number-by_count bytes some same =
    let whole : digit_prefix bytes ≡ bytes = sym (digit_prefix_is bytes) ∙ ap (λ n. take n bytes) same ∙ take-length bytes in
    subst IsWholeNumber whole (whole_number-prefix bytes (omega arith))

pub count-whole_number : (bytes : List ℕ) → IsWholeNumber bytes → length (digit_prefix bytes) ≡ length bytes
count-whole_number bytes h =
    let longest = whole_number-longest bytes (length bytes) (omega arith) (subst IsWholeNumber (sym (take-length bytes)) h) in
    omega (arith, longest, length-digit_prefix-le bytes)

-- the test that each byte is a digit says that each is
pub all_digits-from_test : (bytes : List ℕ) → list_all is_ascii_digit bytes ≡ true → AllDigits 10 bytes
all_digits-from_test [] h = tt
all_digits-from_test (b ∷ bytes) h = (grind (arith, nat_tests), all_digits-from_test bytes (grind (arith, nat_tests)))

pub test-all_digits : (bytes : List ℕ) → AllDigits 10 bytes → list_all is_ascii_digit bytes ≡ true
test-all_digits [] h = refl
test-all_digits (b ∷ bytes) h = let rest = test-all_digits bytes h.1 in grind (arith, nat_tests)
