-- Numbers of few digits: what the test on a word says.
use Rattle.std.proofs.Common.{◌≡◌, ℕ, ◌≤◌, List, true, nat_le, length, arith}
use Rattle.std.specs.List.{list_all}
use Rattle.std.specs.Char.{is_ascii_digit}
use Rattle.std.proofs.lemmas.Bool.Decides.{nat_tests}
use Rattle.plain_text.specs.Digits.{IsWholeNumber}
use Rattle.plain_text.proofs.WholeNumbers.{all_digits-from_test, test-all_digits}
use Rattle.word_readers.specs.Numbers.{is_short_number}

pub is_short_number-true : (most : ℕ) (word : List ℕ) → IsWholeNumber word → length word ≤ most → is_short_number most word ≡ true
is_short_number-true most word h short =
    let all : list_all is_ascii_digit word ≡ true = test-all_digits word h.1 in
    grind (arith, nat_tests)

pub IsWholeNumber-from_short : (most : ℕ) (word : List ℕ) → is_short_number most word ≡ true
    → IsWholeNumber word × (length word ≤ most)
IsWholeNumber-from_short most word e =
    let some : nat_le 1 (length word) ≡ true = grind (arith, nat_tests) in
    let short : nat_le (length word) most ≡ true = grind (arith, nat_tests) in
    let all : list_all is_ascii_digit word ≡ true = grind (arith, nat_tests) in
    ((grind (arith, nat_tests), all_digits-from_test word all), grind (arith, nat_tests))
