-- The texts of fields: plain words that write them.
use Rattle.std.proofs.Common.{◌≡◌, ℕ, suc, ◌<◌, ◌≤◌, ◌^◌, ℤ, pos, negsuc, ◌&&◌, true, false, List, [], ◌∷◌, length, map, refl, sym, ap, ◌∙◌, subst, inl, arith}
use Rattle.std.specs.Prelude.{nat_lt, neg_ℤ, ◌≤ℤ◌}
use Rattle.std.specs.Fmt.{decimal, signed_decimal}
use Rattle.std.specs.List.{AllByRecursion, list_all}
use Rattle.std.specs.Str.Parse.{AllDigits, IsNumeral, digits_value}
use Rattle.std.proofs.lemmas.Bool.{and_parts, cond-false, ltb-true}
use Rattle.std.proofs.lemmas.Bool.Decides.{nat_tests}
use Rattle.std.proofs.lemmas.Fmt.{decimal_is_IsNumeral_wide, length-decimal-le_wide}
use Rattle.std.proofs.lemmas.Int.{ints}
use Rattle.std.proofs.lemmas.Str.Parse.{digit_from_value}
use Rattle.moduli_sets.specs.declared.set_name.SetName.{SetName}
use Rattle.moduli_sets.specs.declared.set_name.SetName.TheVariants.{Pocket, Desk, Hall}
use Rattle.moduli_sets.specs.Name.{set_of_name}
use Rattle.moduli_sets.specs.Set.{IsInRange, range_bound}
use Rattle.plain_text.specs.Digits.{IsInteger, IsWholeNumber, is_negative, unsigned_part, value_of_digits, value_of_integer}
use Rattle.assembler.specs.Fields.{Field, a_register, an_integer, a_natural, a_place}
use Rattle.assembler.specs.Listing.{Fits, field_text}
use Rattle.assembler.specs.Words.{IsInt128, Places, Writes}
use Rattle.assembler.specs.Statements.{WriteAll}

-- ---- plain words
-- each byte stands above #, space and the ends of lines
abbrev pub IsPlain : List ℕ → Type 0
IsPlain [] = Unit {0}
IsPlain (b ∷ bytes) = (35 < b) × IsPlain bytes

abbrev pub IsPlainWord : List ℕ → Type 0
IsPlainWord word = (0 < length word) × IsPlain word

plain_bytes-from_test : (bytes : List ℕ) → list_all (nat_lt 35) bytes ≡ true → IsPlain bytes
plain_bytes-from_test [] h = tt
plain_bytes-from_test (b ∷ bytes) h = let parts = and_parts (nat_lt 35 b) (list_all (nat_lt 35) bytes) h in (ltb-true 35 b parts.0, plain_bytes-from_test bytes parts.1)

pub plain-from_test : (word : List ℕ) → (nat_lt 0 (length word) && list_all (nat_lt 35) word) ≡ true → IsPlainWord word
plain-from_test word h = let parts = and_parts (nat_lt 0 (length word)) (list_all (nat_lt 35) word) h in (ltb-true 0 (length word) parts.0, plain_bytes-from_test word parts.1)

plain_bytes-digits : (bytes : List ℕ) → AllDigits 10 bytes → IsPlain bytes
plain_bytes-digits [] h = tt
plain_bytes-digits (b ∷ bytes) h = let digit = digit_from_value b h.0 in (omega arith, plain_bytes-digits bytes h.1)

-- ---- decimal digits
-- the digits of a number are a whole number with its value
decimal_is : (n : ℕ) → n ≤ 2 ^ 127 → IsNumeral 10 (decimal n) × (digits_value 10 (decimal n) ≡ n)
decimal_is n l = decimal_is_IsNumeral_wide n (omega arith)

plain-decimal : (n : ℕ) → n ≤ 2 ^ 127 → IsPlainWord (decimal n)
plain-decimal n l = let number = decimal_is n l in (number.0.0, plain_bytes-digits (decimal n) number.0.1)

after_byte : (b : ℕ) (bytes : List ℕ) → 35 < b → IsPlainWord bytes → IsPlainWord (b ∷ bytes)
after_byte b bytes l h = (omega arith, (l, h.1))

-- digits have no minus
not_negative : (bytes : List ℕ) → IsWholeNumber bytes → is_negative bytes ≡ false
not_negative [] h = absurd (omega (arith, h.0))
not_negative (b ∷ bytes) h = let digit = digit_from_value b h.1.0 in grind (arith, nat_tests)

integer-from_digits : (bytes : List ℕ) → IsWholeNumber bytes → IsInteger bytes × (value_of_integer bytes ≡ pos (value_of_digits bytes))
integer-from_digits bytes h =
    let test = not_negative bytes h in
    let whole : unsigned_part bytes ≡ bytes = cond-false (is_negative bytes) _ bytes test in (
      subst IsWholeNumber (sym whole) h,
      cond-false (is_negative bytes) _ (pos (value_of_digits (unsigned_part bytes))) test ∙ ap (λ (ds : List ℕ). pos (value_of_digits ds)) whole,
    )

-- an integer's text writes it
pub writes_integer : (places : Places) (x : ℤ) → IsInt128 x → Writes places (signed_decimal x) (an_integer x)
writes_integer places (pos n) fits =
    let number = decimal_is n (omega arith) in
    let integer = integer-from_digits (decimal n) number.0 in
    (integer.0, sym (integer.1 ∙ ap pos number.1), fits)
writes_integer places (negsuc n) fits =
    let number = decimal_is (suc n) (omega arith) in
    (number.0, sym (ap (λ (k : ℕ). neg_ℤ (pos k)) number.1), fits)

pub plain-integer : (x : ℤ) → IsInt128 x → IsPlainWord (signed_decimal x)
plain-integer (pos n) fits = plain-decimal n (omega arith)
plain-integer (negsuc n) fits = after_byte 45 (decimal (suc n)) (omega arith) (plain-decimal (suc n) (omega arith))

-- ---- fields
pub writes_field : (places : Places) (field : Field) → Fits field → Writes places (field_text field) field
writes_field places (a_register r) fits =
    let number = decimal_is r (omega arith) in
    (decimal r, refl, number.0, length-decimal-le_wide 3 r (omega arith) (omega arith) (omega arith), sym number.1, omega arith)
writes_field places (an_integer x) fits = writes_integer places x fits
writes_field places (a_natural n) fits = let number = decimal_is n (omega arith) in (number.0, sym number.1, fits)
writes_field places (a_place n) fits = let number = decimal_is n (omega arith) in inl (number.0, sym number.1, fits)

plain-field : (field : Field) → Fits field → IsPlainWord (field_text field)
plain-field (a_register r) fits = after_byte 114 (decimal r) (omega arith) (plain-decimal r (omega arith))
plain-field (an_integer x) fits = plain-integer x fits
plain-field (a_natural n) fits = plain-decimal n (omega arith)
plain-field (a_place n) fits = plain-decimal n (omega arith)

pub write_fields : (places : Places) (fields : List Field) → AllByRecursion Fits fields → WriteAll places (map field_text fields) fields
write_fields places [] fits = tt
write_fields places (field ∷ fields) fits = (writes_field places field fits.0, write_fields places fields fits.1)

pub plain-fields : (fields : List Field) → AllByRecursion Fits fields → AllByRecursion IsPlainWord (map field_text fields)
plain-fields [] fits = tt
plain-fields (field ∷ fields) fits = (plain-field field fits.0, plain-fields fields fits.1)

-- ---- integers in the range of a set
below_bound : (bound : ℕ) (x : ℤ) → bound < 2 ^ 127 → neg_ℤ (pos bound) ≤ℤ x → x ≤ℤ pos bound → IsInt128 x
below_bound bound (pos n) l low high = omega (arith, ints)
below_bound bound (negsuc n) l low high = omega (arith, ints)

bound_fits : (set : SetName) → range_bound (set_of_name set) < 2 ^ 127
bound_fits Pocket = omega arith
bound_fits Desk = omega arith
bound_fits Hall = omega arith

pub IsInt128-in_range : (set : SetName) (x : ℤ) → IsInRange (set_of_name set) x → IsInt128 x
IsInt128-in_range set x h = below_bound (range_bound (set_of_name set)) x (bound_fits set) h.low h.high
