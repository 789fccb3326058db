-- Integers among the words: few enough digits, and the magnitude against the range.
use Rattle.std.proofs.Common.{◌≡◌, ℕ, ◌<◌, ◌≤◌, List, Bool, true, false, cond, ◌&&◌, length, Option, Some, None, MatchOption, IfSome, refl, subst, sym, ap, ◌∙◌, ℤ, pos, neg_ℤ, arith}
use Rattle.std.proofs.lemmas.Int.{ints}
use Rattle.std.proofs.lemmas.Bool.{and_parts}
use Rattle.plain_text.specs.Digits.{IsInteger, is_negative, unsigned_part, value_of_digits, value_of_integer}
use Rattle.moduli_sets.specs.declared.set_name.SetName.{SetName}
use Rattle.moduli_sets.specs.Name.{set_of_name}
use Rattle.moduli_sets.specs.Set.{ModuliSet, IsInRange, range_bound}
use Rattle.word_readers.specs.Numbers.{is_short_integer, is_in_range, integer_in_range}
use Rattle.word_readers.proofs.ShortNumbers.{is_short_number-true, IsWholeNumber-from_short}

-- ---- few digits
is_short_integer-true : (word : List ℕ) → IsInteger word → length (unsigned_part word) ≤ 39 → is_short_integer word ≡ true
is_short_integer-true word = is_short_number-true 39 (unsigned_part word)

IsInteger-from_short : (word : List ℕ) → is_short_integer word ≡ true → IsInteger word × (length (unsigned_part word) ≤ 39)
IsInteger-from_short word = IsWholeNumber-from_short 39 (unsigned_part word)

-- ---- the range
is_in_range-signed : (set : ModuliSet) (n : ℕ) (negative : Bool) → n ≤ range_bound set
    → is_in_range set (cond negative (neg_ℤ (pos n)) (pos n)) ≡ true
is_in_range-signed set n true le = grind (arith, ints)
is_in_range-signed set n false le = grind (arith, ints)

is_out-signed : (set : ModuliSet) (n : ℕ) (negative : Bool) → range_bound set < n
    → is_in_range set (cond negative (neg_ℤ (pos n)) (pos n)) ≡ false
is_out-signed set n true lt = grind (arith, ints)
is_out-signed set n false lt = grind (arith, ints)

-- ---- the integer in range
integer_in_range-by : (name : SetName) (word : List ℕ) (short within : Bool) → is_short_integer word ≡ short
    → is_in_range (set_of_name name) (value_of_integer word) ≡ within → integer_in_range name word
    ≡ cond (short && within) (Some (value_of_integer word)) None
integer_in_range-by name word short within s w = let e : (is_short_integer word && is_in_range (set_of_name name)
    (value_of_integer word)) ≡ (short && within) = cc in ap (λ b. cond b (Some (value_of_integer word)) None) e

none_by : (name : SetName) (word : List ℕ) (short : Bool) → is_short_integer word ≡ short
    → (IsInteger word → length (unsigned_part word) ≤ 39 → ⊥) → integer_in_range name word ≡ None
none_by name word true e h = let parts = IsInteger-from_short word e in absurd (h parts.0 parts.1)
none_by name word false e h = integer_in_range-by name word false _ e refl

-- a word that is no integer, or has more digits, writes none
pub integer_in_range-none : (name : SetName) (word : List ℕ) → (IsInteger word → length (unsigned_part word) ≤ 39 → ⊥)
    → integer_in_range name word ≡ None
integer_in_range-none name word h = none_by name word _ refl h

-- the integer up to the bound of the range is the integer in range
pub integer_in_range-up_to : (name : SetName) (word : List ℕ) (bound : ℕ) (read : Option ℤ)
    → bound ≡ range_bound (set_of_name name) → IsInteger word → length (unsigned_part word) ≤ 39
    → MatchOption read (bound < value_of_digits (unsigned_part word)) (λ z. (z ≡ value_of_integer word)
    × (value_of_digits (unsigned_part word) ≤ bound)) → read ≡ integer_in_range name word
integer_in_range-up_to name word bound None is_bound h short r =
    let out = is_out-signed (set_of_name name) (value_of_digits (unsigned_part word)) (is_negative word) (omega arith) in
    sym (integer_in_range-by name word true false (is_short_integer-true word h short) out)
integer_in_range-up_to name word bound (Some z) is_bound h short r =
    let within = is_in_range-signed (set_of_name name) (value_of_digits (unsigned_part word)) (is_negative word) (omega arith) in
    ap Some r.0 ∙ sym (integer_in_range-by name word true true (is_short_integer-true word h short) within)

-- ---- its range
IsInRange-from_test : (set : ModuliSet) (z : ℤ) → is_in_range set z ≡ true → IsInRange set z
IsInRange-from_test set z e = record { low = grind (arith, ints); high = grind (arith, ints) }

range_by : (name : SetName) (word : List ℕ) (b : Bool) → (is_short_integer word && is_in_range (set_of_name name)
    (value_of_integer word)) ≡ b → IfSome (cond b (Some (value_of_integer word)) None) (λ z. IsInRange (set_of_name name) z)
range_by name word true e = IsInRange-from_test (set_of_name name) (value_of_integer word)
    (and_parts (is_short_integer word) _ e).1
range_by name word false e = tt

-- the integer that is found is in range
pub integer_in_range-within : (name : SetName) (word : List ℕ) (read : Option ℤ) → read ≡ integer_in_range name word
    → IfSome read (λ z. IsInRange (set_of_name name) z)
integer_in_range-within name word read is =
    let P : Option ℤ → Type 0 = λ r. IfSome r (λ z. IsInRange (set_of_name name) z) in
    subst P (sym is) (range_by name word _ refl)
