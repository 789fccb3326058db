-- Words that are numbers up to a limit: what the test on a word says.
use Rattle.std.proofs.Common.{◌≡◌, ℕ, ◌<◌, ◌≤◌, ◌&&◌, List, Bool, true, false, nat_le, nat_lt, length, codes, Some, None, if◌then◌else◌, refl, ap, arith}
use Rattle.std.specs.List.{list_all}
use Rattle.std.specs.Char.{is_ascii_digit}
use Rattle.std.specs.Str.{bytes_eq}
use Rattle.std.proofs.lemmas.Bool.Decides.{nat_tests}
use Rattle.plain_text.specs.Digits.{IsWholeNumber, digit_prefix, value_of_digits}
use Rattle.plain_text.proofs.WholeNumbers.{all_digits-from_test, count-whole_number, test-all_digits}
use Rattle.fault_book.specs.FaultText.{is_number_up_to}
use Rattle.fault_book.specs.ScheduleText.{turn_of}
use Rattle.fault_book.specs.declared.schedule.Turn.TheVariants.{Lane}

-- a word with another byte than digits is none
pub is_number-other : (most : ℕ) (word : List ℕ) → 0 < length word → (length (digit_prefix word) ≡ length word → ⊥) → is_number_up_to most word ≡ false
is_number-other most word some other = by (list_all is_ascii_digit word) refl
  where
    by : (b : Bool) → list_all is_ascii_digit word ≡ b → is_number_up_to most word ≡ false
    by true e = absurd (other (count-whole_number word (some, all_digits-from_test word e)))
    by false e = ap (λ b. b && nat_le (value_of_digits word) most) e

-- digits with a small enough value are one
pub is_number-digits : (most : ℕ) (word : List ℕ) → IsWholeNumber word → value_of_digits word ≤ most → is_number_up_to most word ≡ true
is_number-digits most word whole small =
    let digits : list_all is_ascii_digit word ≡ true = test-all_digits word whole.1 in
    grind (arith, nat_tests)

-- ---- turns
-- a word that isn't C and has another byte than digits is no turn
pub turn_of-other : (channels : ℕ) (word : List ℕ) → 0 < length word → bytes_eq word (codes "C") ≡ false → (length (digit_prefix word) ≡ length word → ⊥) → turn_of channels word ≡ None
turn_of-other channels word some not_control other = by (list_all is_ascii_digit word) refl
  where
    by : (digits : Bool) → list_all is_ascii_digit word ≡ digits → turn_of channels word ≡ None
    by true are_digits = absurd (other (count-whole_number word (some, all_digits-from_test word are_digits)))
    by false are_digits = cc

-- digits that aren't C are the channel that they write, where there is one
pub turn_of-digits : (channels : ℕ) (word : List ℕ) → bytes_eq word (codes "C") ≡ false → IsWholeNumber word
    → turn_of channels word ≡ (if nat_lt (value_of_digits word) channels then Some (Lane (value_of_digits word)) else None)
turn_of-digits channels word not_control whole =
    let digits : list_all is_ascii_digit word ≡ true = test-all_digits word whole.1 in
    cc
