-- The value of the first digits, one digit on.
use Rattle.std.proofs.Common.{◌≡◌, ℕ, ◌+◌, ◌-◌, ◌*◌, ◌<◌, ◌≤◌, List, length, get_or, take, arith, ◌∙◌, ap}
use Rattle.std.specs.Char.{digit_value}
use Rattle.std.specs.Int.{IsInRange}
use Rattle.std.proofs.lemmas.Bool.Decides.{nat_tests}
use Rattle.std.proofs.lemmas.Int.Digits.{digits_value_more}
use Rattle.std.proofs.lemmas.Str.Parse.{digit_at, digits_value-take-le}
use Rattle.plain_text.specs.Digits.{IsWholeNumber, value_of_digits}

digit_value_is : (c : ℕ) → IsInRange 48 57 c → digit_value c ≡ c - 48
digit_value_is c h = grind (arith, nat_tests)

-- the digit at a place is one
pub digit_in : (bytes : List ℕ) (i : ℕ) → IsWholeNumber bytes → i < length bytes → IsInRange 48 57 (get_or bytes i 0)
digit_in bytes i h lt = digit_at bytes i h.1 lt

-- with one digit more
pub value_more : (bytes : List ℕ) (i : ℕ) → IsWholeNumber bytes → i < length bytes → value_of_digits (take (i + 1) bytes) ≡ value_of_digits (take i bytes) * 10 + (get_or bytes i 0 - 48)
value_more bytes i h lt = digits_value_more 10 bytes i lt ∙ ap (λ d. value_of_digits (take i bytes) * 10 + d) (digit_value_is (get_or bytes i 0) (digit_in bytes i h lt))

-- some digits are worth no more than all
pub value_prefix : (bytes : List ℕ) (i : ℕ) → value_of_digits (take i bytes) ≤ value_of_digits bytes
value_prefix bytes i = digits_value-take-le 10 bytes i (omega arith)
