-- The longest token at the start of a text, by its first byte.
use Rattle.std.proofs.Common.{◌≡◌, ℕ, ◌<◌, ◌≤◌, ◌&&◌, List, [], ◌∷◌, Bool, true, false, cond, length, get_or, take, Some, zero, suc, arith, ◌∙◌, ap, sym, refl, subst}
use Rattle.std.specs.Char.{is_ascii_alphabetic, is_ascii_digit}
use Rattle.std.specs.List.{list_all, take_while, slice_get}
use Rattle.std.proofs.lemmas.Bool.{and_parts}
use Rattle.std.proofs.lemmas.Bool.Decides.{nat_tests}
use Rattle.std.proofs.lemmas.List.{get_or-take, length-take-le}
use Rattle.std.proofs.lemmas.List.Sums.{prefix_len-le-length, take_while-cons}
use Rattle.plain_text.specs.Digits.{IsWholeNumber, digit_prefix}
use Rattle.plain_text.proofs.DigitPrefix.{digit_prefix_is, length-digit_prefix-le, whole_number-prefix, whole_number-longest, digit_prefix-digit, digit_from_test}
use Rattle.source_lexer.specs.declared.token.TokenKind.{TokenKind}
use Rattle.source_lexer.specs.declared.token.TokenKind.TheVariants.{Number}
use Rattle.source_lexer.specs.Prefixes.{IsLongestPrefix, HasNoPrefix, BeginsWithSymbol, HasNoPair, IsPair}
use Rattle.source_lexer.specs.Tokens.{fixed_text, is_name_byte, IsFixed, IsIdentifier, IsToken}
use Rattle.source_lexer.proofs.TokenForms.{fixed_is_token, letter_begins_identifier, digit_begins_number, other_begins_symbol}

-- the bytes at the start that pass a test, and no longer prefix of such bytes
pub passing_prefix : {X : Type 0} (p : X → Bool) (xs : List X) → list_all p (take_while p xs) ≡ true
passing_prefix p [] = refl
passing_prefix p (x ∷ xs) = passing_step p x xs (p x) refl (passing_prefix p xs)
  where
    passing_step : {X : Type 0} (p : X → Bool) (x : X) (xs : List X) (t : Bool) → p x ≡ t → list_all p (take_while p xs) ≡ true → list_all p (take_while p (x ∷ xs)) ≡ true
    passing_step p x xs true h rest = rw take_while-cons (rw h (rw h rest))
    passing_step p x xs false h rest = rw take_while-cons (rw h refl)

passing_longest : (p : ℕ → Bool) (xs : List ℕ) (n : ℕ) → n ≤ length xs → list_all p (take n xs) ≡ true → n ≤ length (take_while p xs)
passing_longest p xs zero le h = omega arith
passing_longest p [] (suc n) le h = absurd (omega arith)
passing_longest p (x ∷ xs) (suc n) le h =
    let parts = and_parts (p x) (list_all p (take n xs)) h in
    let rest = passing_longest p xs n (omega arith) parts.1 in
    let prefix = take_while-cons p x xs ∙ ap (λ t. cond t (x ∷ take_while p xs) []) parts.0 in
    omega (arith, ap length prefix)

take_while_is : (p : ℕ → Bool) (xs : List ℕ) → take (length (take_while p xs)) xs ≡ take_while p xs
take_while_is p xs = ap (λ n. take n xs) (length-take-le _ xs (prefix_len-le-length p xs))

length-take_while-le : (p : ℕ → Bool) (xs : List ℕ) → length (take_while p xs) ≤ length xs
length-take_while-le p xs = omega (arith, length-take-le _ xs (prefix_len-le-length p xs), prefix_len-le-length p xs)

-- a prefix has the first byte of the whole
first_of_prefix : (text : List ℕ) (m : ℕ) → 0 < m → get_or (take m text) 0 0 ≡ get_or text 0 0
first_of_prefix text m h = get_or-take m text 0 0 h

letter_in_name : (b : ℕ) → is_ascii_alphabetic b ≡ true → is_name_byte b ≡ true
letter_in_name b h = grind (arith, nat_tests)

-- after a letter
name_prefix : (b : ℕ) (bytes : List ℕ) → is_ascii_alphabetic b ≡ true → take_while is_name_byte (b ∷ bytes) ≡ b ∷ take_while is_name_byte bytes
name_prefix b bytes h =
    take_while-cons is_name_byte b bytes ∙ ap (λ t. cond t (b ∷ take_while is_name_byte bytes) []) (letter_in_name b h)

name_forward : (text : List ℕ) → 0 < length text → is_ascii_alphabetic (get_or text 0 0) ≡ true → 0 < length (take_while is_name_byte text)
name_forward [] some h = absurd (omega arith)
name_forward (b ∷ bytes) some h = omega (arith, ap length (name_prefix b bytes h))

pub word_prefix : (text : List ℕ) → 0 < length text → is_ascii_alphabetic (get_or text 0 0) ≡ true → IsIdentifier (take (length (take_while is_name_byte text)) text)
word_prefix [] some h = absurd (omega arith)
word_prefix (b ∷ bytes) some h =
    subst IsIdentifier (sym (take_while_is is_name_byte (b ∷ bytes) ∙ name_prefix b bytes h)) (h, passing_prefix is_name_byte bytes)

all_from_identifier : (bytes : List ℕ) → IsIdentifier bytes → list_all is_name_byte bytes ≡ true
all_from_identifier [] h = absurd h
all_from_identifier (b ∷ bytes) h = ap (λ t. t && list_all is_name_byte bytes) (letter_in_name b h.0) ∙ h.1

pub longest_word : (text : List ℕ) (kind : TokenKind) → 0 < length text → is_ascii_alphabetic (get_or text 0 0) ≡ true → IsToken kind (take (length (take_while is_name_byte text)) text) → IsLongestPrefix text kind (length (take_while is_name_byte text))
longest_word text kind some h token = record {
  forward = name_forward text some h;
  inside = length-take_while-le is_name_byte text;
  is_token = token;
  longest = λ k m more le other.
      let letter : is_ascii_alphabetic (get_or (take m text) 0 0) ≡ true = ap is_ascii_alphabetic (first_of_prefix text m (omega arith)) ∙ h in
      let word = letter_begins_identifier k (take m text) letter other in
      let short = passing_longest is_name_byte text m le (all_from_identifier (take m text) word) in
      omega arith;
}

-- after a digit
digits_forward : (text : List ℕ) → 0 < length text → is_ascii_digit (get_or text 0 0) ≡ true → 0 < length (digit_prefix text)
digits_forward [] some h = absurd (omega arith)
digits_forward (b ∷ bytes) some h = omega (arith, ap length (digit_prefix-digit b bytes (digit_from_test b h)))

pub longest_number : (text : List ℕ) → 0 < length text → is_ascii_digit (get_or text 0 0) ≡ true → IsLongestPrefix text Number (length (digit_prefix text))
longest_number text some h = record {
  forward = digits_forward text some h;
  inside = length-digit_prefix-le text;
  is_token = subst IsWholeNumber (sym (digit_prefix_is text)) (whole_number-prefix text (digits_forward text some h));
  longest = λ k m more le other.
      let digit : is_ascii_digit (get_or (take m text) 0 0) ≡ true = ap is_ascii_digit (first_of_prefix text m (omega arith)) ∙ h in
      let short = whole_number-longest text m le (digit_begins_number k (take m text) digit other) in
      omega arith;
}

-- after any other byte
take_one : (text : List ℕ) → 0 < length text → take 1 text ≡ get_or text 0 0 ∷ []
take_one [] h = absurd (omega arith)
take_one (a ∷ bytes) h = refl

take_two : (text : List ℕ) → 1 < length text → take 2 text ≡ get_or text 0 0 ∷ get_or text 1 0 ∷ []
take_two [] h = absurd (omega arith)
take_two (a ∷ []) h = absurd (omega arith)
take_two (a ∷ b ∷ bytes) h = refl

symbol_prefix : (text : List ℕ) (k : TokenKind) (m : ℕ) → BeginsWithSymbol text → 0 < m → m ≤ length text → IsToken k (take m text) → (fixed_text k ≡ Some (take m text)) × (m ≤ 2)
symbol_prefix text k m begins some le token =
    let no_letter : is_ascii_alphabetic (get_or (take m text) 0 0) ≡ false = ap is_ascii_alphabetic (first_of_prefix text m some) ∙ begins.no_letter in
    let no_digit : is_ascii_digit (get_or (take m text) 0 0) ≡ false = ap is_ascii_digit (first_of_prefix text m some) ∙ begins.no_digit in
    let symbol = other_begins_symbol k (take m text) no_letter no_digit token in
    (symbol.0, omega (arith, symbol.1, length-take-le m text le))

pub longest_pair : (text : List ℕ) (kind : TokenKind) → BeginsWithSymbol text → IsPair text kind → IsLongestPrefix text kind 2
longest_pair text kind begins pair = record {
  forward = omega arith;
  inside = omega (arith, pair.0);
  is_token = subst (IsToken kind) (sym (take_two text pair.0)) (fixed_is_token kind _ pair.1);
  longest = λ k m more le other.
      let short = (symbol_prefix text k m begins (omega arith) le other).1 in omega arith;
}

pub longest_byte : (text : List ℕ) (kind : TokenKind) → BeginsWithSymbol text → HasNoPair text → fixed_text kind ≡ Some (get_or text 0 0 ∷ []) → IsLongestPrefix text kind 1
longest_byte text kind begins no_pair h = record {
  forward = omega arith;
  inside = begins.some;
  is_token = subst (IsToken kind) (sym (take_one text begins.some)) (fixed_is_token kind _ h);
  longest = λ k m more le other.
      let symbol = symbol_prefix text k m begins (omega arith) le other in
      let two : m ≡ 2 = omega (arith, symbol.1) in
      let text_two : take m text ≡ get_or text 0 0 ∷ get_or text 1 0 ∷ [] = ap (λ n. take n text) two ∙ take_two text (omega arith) in
      no_pair (omega arith) (k, symbol.0 ∙ ap Some text_two);
}

pub no_symbol : (text : List ℕ) → BeginsWithSymbol text → HasNoPair text → (IsFixed (get_or text 0 0 ∷ []) → ⊥) → HasNoPrefix text
no_symbol text begins no_pair no_byte k m some le other =
    let symbol = symbol_prefix text k m begins some le other in
    let text_one : m ≡ 1 → take m text ≡ get_or text 0 0 ∷ [] = λ one. ap (λ n. take n text) one ∙ take_one text begins.some in
    let text_two : m ≡ 2 → take m text ≡ get_or text 0 0 ∷ get_or text 1 0 ∷ [] = λ two. ap (λ n. take n text) two ∙ take_two text (omega arith) in
    let at_one : m ≡ 1 → ⊥ = λ one. no_byte (k, symbol.0 ∙ ap Some (text_one one)) in
    let at_two : m ≡ 2 → ⊥ = λ two. no_pair (omega arith) (k, symbol.0 ∙ ap Some (text_two two)) in
    omega (arith, symbol.1)

-- what `first` gives is the first byte
pub first_is : (text : List ℕ) (b : ℕ) → Some b ≡ slice_get text 0 → (0 < length text) × (get_or text 0 0 ≡ b)
first_is [] b h = cc
first_is (a ∷ bytes) b h = (omega arith, cc)
