-- Decimal digits in a text of bytes.
use Rattle.std.specs.Prelude.{ℕ, ℤ, pos, neg_ℤ, Bool, nat_eq, List, take_while, drop, codes, if◌then◌else◌}
use Rattle.std.specs.List.{starts_with}
use Rattle.std.specs.Char.{is_ascii_digit}
use Rattle.std.specs.Str.Parse.{IsNumeral, digits_value}

-- one decimal digit or more, and nothing else
abbrev pub IsWholeNumber : List ℕ → Type 0
IsWholeNumber bytes = IsNumeral 10 bytes

-- the number that decimal digits write
abbrev pub value_of_digits : List ℕ → ℕ
value_of_digits bytes = digits_value 10 bytes

-- the decimal digits at the start
abbrev pub digit_prefix : List ℕ → List ℕ
digit_prefix bytes = take_while is_ascii_digit bytes

-- a minus in front
abbrev pub is_negative : List ℕ → Bool
is_negative bytes = starts_with nat_eq bytes (codes "-")

-- what stands after an optional minus
abbrev pub unsigned_part : List ℕ → List ℕ
unsigned_part bytes = if is_negative bytes then drop 1 bytes else bytes

-- an optional minus, then one decimal digit or more, and nothing else
abbrev pub IsInteger : List ℕ → Type 0
IsInteger bytes = IsWholeNumber (unsigned_part bytes)

-- the integer that they write
abbrev pub value_of_integer : List ℕ → ℤ
value_of_integer bytes =
    if is_negative bytes then neg_ℤ (pos (value_of_digits (unsigned_part bytes))) else pos (value_of_digits (unsigned_part bytes))
