-- What tokens of each kind look like, and that bytes are a token of one kind only.
use Rattle.std.proofs.Common.{◌≡◌, ℕ, ◌≤◌, ◌==◌, ◌&&◌, List, [], ◌∷◌, Bool, true, false, cond, not, length, get_or, Option, Some, None, nat_le, arith, ◌∙◌, sym, refl, subst}
use Rattle.std.specs.Char.{is_ascii_alphabetic, is_ascii_digit}
use Rattle.std.specs.List.{list_all}
use Rattle.std.specs.Str.{bytes_eq}
use Rattle.std.specs.Str.Parse.{AllDigits}
use Rattle.std.proofs.lemmas.Bool.{and_parts, false≢true, leb-true}
use Rattle.std.proofs.lemmas.Bool.Decides.{nat_tests}
use Rattle.plain_text.specs.Digits.{IsWholeNumber}
use Rattle.plain_text.proofs.DigitPrefix.{test_from_digit}
use Rattle.source_lexer.specs.declared.token.TokenKind.{TokenKind}
use Rattle.source_lexer.specs.declared.token.TokenKind.TheVariants.{Name, Number, Var, Array, Proc, Do, End, Print, Read, If, Then, Else, For, To, While, Limit, Div, Mod, Becomes, Colon, Semicolon, Comma, LeftParen, RightParen, LeftBracket, RightBracket, Dots, Plus, Minus, Star, Less, LessEqual, Greater, GreaterEqual, Equal, NotEqual}
use Rattle.source_lexer.specs.Tokens.{fixed_text, is_name_byte, IsIdentifier, IsFixed, IsToken}
use Rattle.source_lexer.specs.Scan.{is_blank, comment_after}

abbrev pub is_no_line_feed : ℕ → Bool
is_no_line_feed b = not (b == 10)

-- a token is a name, a number, or the text of its kind
pub data TokenView (kind : TokenKind) (bytes : List ℕ) : Type 0 where
  name : kind ≡ Name → IsIdentifier bytes → ¬ (IsFixed bytes) → TokenView kind bytes
  number : kind ≡ Number → IsWholeNumber bytes → TokenView kind bytes
  fixed : fixed_text kind ≡ Some bytes → TokenView kind bytes

pub view_token : (kind : TokenKind) (bytes : List ℕ) → IsToken kind bytes → TokenView kind bytes
view_token Name bytes h = name refl h.0 h.1
view_token Number bytes h = number refl h
view_token _ bytes h = fixed h

-- keywords are letters; symbols are one byte or two, and neither blanks nor digits nor `#`
abbrev is_symbol : ℕ → List ℕ → Bool
is_symbol b bytes = not (is_ascii_digit b) && (not (is_blank b) && (not (b == 35) && (list_all is_no_line_feed (b ∷ bytes) && nat_le (length bytes) 1)))

abbrev is_shaped : List ℕ → Bool
is_shaped [] = false
is_shaped (b ∷ bytes) = cond (is_ascii_alphabetic b) (list_all is_name_byte bytes) (is_symbol b bytes)

abbrev shape_of : Option (List ℕ) → Bool
shape_of None = true
shape_of (Some bytes) = is_shaped bytes

shape_fixed : (kind : TokenKind) → shape_of (fixed_text kind) ≡ true
shape_fixed Name = refl
shape_fixed _ = refl

-- the kind with this text
abbrev has_text : Option (List ℕ) → List ℕ → Bool
has_text None bytes = false
has_text (Some text) bytes = bytes_eq text bytes

abbrev kind_among : List TokenKind → List ℕ → TokenKind
kind_among [] bytes = Name
kind_among (kind ∷ kinds) bytes = cond (has_text (fixed_text kind) bytes) kind (kind_among kinds bytes)

abbrev kind_of : List ℕ → TokenKind
kind_of bytes = kind_among (Var ∷ Array ∷ Proc ∷ Do ∷ End ∷ Print ∷ Read ∷ If ∷ Then ∷ Else ∷ For ∷ To ∷ While ∷ Limit ∷ Div ∷ Mod ∷ Becomes ∷ Colon ∷ Semicolon ∷ Comma ∷ LeftParen ∷ RightParen ∷ LeftBracket ∷ RightBracket ∷ Dots ∷ Plus ∷ Minus ∷ Star ∷ Less ∷ LessEqual ∷ Greater ∷ GreaterEqual ∷ Equal ∷ NotEqual ∷ []) bytes

abbrev IsKindFor : Option (List ℕ) → TokenKind → Type 0
IsKindFor None kind = Unit {0}
IsKindFor (Some bytes) kind = kind_of bytes ≡ kind

kind_of_fixed : (kind : TokenKind) → IsKindFor (fixed_text kind) kind
kind_of_fixed Name = tt
kind_of_fixed Number = tt
kind_of_fixed _ = refl

-- no two kinds have one text
pub same_fixed : (a b : TokenKind) (bytes : List ℕ) → fixed_text a ≡ Some bytes → fixed_text b ≡ Some bytes → a ≡ b
same_fixed a b bytes h k =
    let x : kind_of bytes ≡ a = subst (λ (text : Option (List ℕ)). IsKindFor text a) h (kind_of_fixed a) in
    let y : kind_of bytes ≡ b = subst (λ (text : Option (List ℕ)). IsKindFor text b) k (kind_of_fixed b) in
    sym x ∙ y

shape_is : (kind : TokenKind) (bytes : List ℕ) → fixed_text kind ≡ Some bytes → is_shaped bytes ≡ true
shape_is kind bytes h = subst (λ (text : Option (List ℕ)). shape_of text ≡ true) h (shape_fixed kind)

pub fixed_is_token : (kind : TokenKind) (bytes : List ℕ) → fixed_text kind ≡ Some bytes → IsToken kind bytes
fixed_is_token Name bytes h = cc
fixed_is_token Number bytes h = cc
fixed_is_token _ bytes h = h

chosen_first : (t x y : Bool) → t ≡ true → cond t x y ≡ true → x ≡ true
chosen_first true x y h e = e
chosen_first false x y h e = absurd (false≢true h)

chosen_second : (t x y : Bool) → t ≡ false → cond t x y ≡ true → y ≡ true
chosen_second false x y h e = e
chosen_second true x y h e = absurd (false≢true (sym h))

letter_shape : (b : ℕ) (bytes : List ℕ) → is_ascii_alphabetic b ≡ true → is_shaped (b ∷ bytes) ≡ true → IsIdentifier (b ∷ bytes)
letter_shape b bytes h s =
    (h, chosen_first (is_ascii_alphabetic b) (list_all is_name_byte bytes) (is_symbol b bytes) h s)

other_shape : (b : ℕ) (bytes : List ℕ) → is_ascii_alphabetic b ≡ false → is_shaped (b ∷ bytes) ≡ true → is_symbol b bytes ≡ true
other_shape b bytes h s =
    chosen_second (is_ascii_alphabetic b) (list_all is_name_byte bytes) (is_symbol b bytes) h s

-- the parts of a symbol's shape
record SymbolShape (b : ℕ) (bytes : List ℕ) : Type 0 where
  no_digit : is_ascii_digit b ≡ false
  no_blank : is_blank b ≡ false
  no_comment : (b == 35) ≡ false
  one_line : list_all is_no_line_feed (b ∷ bytes) ≡ true
  short : length bytes ≤ 1

fails : (t : Bool) → not t ≡ true → t ≡ false
fails true h = absurd (false≢true h)
fails false h = refl

symbol_shape : (b : ℕ) (bytes : List ℕ) → is_symbol b bytes ≡ true → SymbolShape b bytes
symbol_shape b bytes s =
    let p = and_parts _ _ s in
    let q = and_parts _ _ p.1 in
    let r = and_parts _ _ q.1 in
    let t = and_parts _ _ r.1 in
    record { no_digit = fails _ p.0; no_blank = fails _ q.0; no_comment = fails _ r.0; one_line = t.0; short = leb-true _ _ t.1 }

letter_no_digit : (b : ℕ) → is_ascii_alphabetic b ≡ true → is_ascii_digit b ≡ true → ⊥
letter_no_digit b h d = grind (arith, nat_tests)

digit_no_letter : (b : ℕ) → is_ascii_digit b ≡ true → is_ascii_alphabetic b ≡ false
digit_no_letter b h = grind (arith, nat_tests)

-- what begins with a letter is an identifier
letter_by_view : (kind : TokenKind) (bytes : List ℕ) → is_ascii_alphabetic (get_or bytes 0 0) ≡ true → TokenView kind bytes → IsIdentifier bytes
letter_by_view kind bytes h (name e word other) = word
letter_by_view kind [] h (number e digits) = absurd (omega (arith, digits.0))
letter_by_view kind (b ∷ bytes) h (number e digits) = absurd (letter_no_digit b h (test_from_digit b digits.1.0))
letter_by_view kind [] h (fixed e) = absurd (false≢true (shape_is kind [] e))
letter_by_view kind (b ∷ bytes) h (fixed e) = letter_shape b bytes h (shape_is kind (b ∷ bytes) e)

pub letter_begins_identifier : (kind : TokenKind) (bytes : List ℕ) → is_ascii_alphabetic (get_or bytes 0 0) ≡ true → IsToken kind bytes → IsIdentifier bytes
letter_begins_identifier kind bytes h token = letter_by_view kind bytes h (view_token kind bytes token)

-- what begins with a digit is a number
digit_by_view : (kind : TokenKind) (bytes : List ℕ) → is_ascii_digit (get_or bytes 0 0) ≡ true → TokenView kind bytes → IsWholeNumber bytes
digit_by_view kind bytes h (number e digits) = digits
digit_by_view kind [] h (name e word other) = absurd word
digit_by_view kind (b ∷ bytes) h (name e word other) = absurd (letter_no_digit b word.0 h)
digit_by_view kind [] h (fixed e) = absurd (false≢true (shape_is kind [] e))
digit_by_view kind (b ∷ bytes) h (fixed e) =
    let shape = symbol_shape b bytes (other_shape b bytes (digit_no_letter b h) (shape_is kind (b ∷ bytes) e)) in
    absurd (false≢true (sym shape.no_digit ∙ h))

pub digit_begins_number : (kind : TokenKind) (bytes : List ℕ) → is_ascii_digit (get_or bytes 0 0) ≡ true → IsToken kind bytes → IsWholeNumber bytes
digit_begins_number kind bytes h token = digit_by_view kind bytes h (view_token kind bytes token)

-- anything else begins a symbol of at most two bytes
other_by_view : (kind : TokenKind) (bytes : List ℕ) → is_ascii_alphabetic (get_or bytes 0 0) ≡ false → is_ascii_digit (get_or bytes 0 0) ≡ false → TokenView kind bytes → (fixed_text kind ≡ Some bytes) × (length bytes ≤ 2)
other_by_view kind [] h k (name e word other) = absurd word
other_by_view kind (b ∷ bytes) h k (name e word other) = absurd (false≢true (sym h ∙ word.0))
other_by_view kind [] h k (number e digits) = absurd (omega (arith, digits.0))
other_by_view kind (b ∷ bytes) h k (number e digits) = absurd (false≢true (sym k ∙ test_from_digit b digits.1.0))
other_by_view kind [] h k (fixed e) = absurd (false≢true (shape_is kind [] e))
other_by_view kind (b ∷ bytes) h k (fixed e) =
    let shape = symbol_shape b bytes (other_shape b bytes h (shape_is kind (b ∷ bytes) e)) in
    (e, omega (arith, shape.short))

pub other_begins_symbol : (kind : TokenKind) (bytes : List ℕ) → is_ascii_alphabetic (get_or bytes 0 0) ≡ false → is_ascii_digit (get_or bytes 0 0) ≡ false → IsToken kind bytes → (fixed_text kind ≡ Some bytes) × (length bytes ≤ 2)
other_begins_symbol kind bytes h k token = other_by_view kind bytes h k (view_token kind bytes token)

-- no token begins with a blank or a `#`
outside_gaps : (b : ℕ) → is_blank b ≡ false → (b == 35) ≡ false → comment_after false (b ∷ []) ≡ None
outside_gaps b h k = rw (h, k) refl

letter_outside : (b : ℕ) → is_ascii_alphabetic b ≡ true → (is_blank b ≡ false) × ((b == 35) ≡ false)
letter_outside b h = (grind (arith, nat_tests), grind (arith, nat_tests))

digit_outside : (b : ℕ) → is_ascii_digit b ≡ true → (is_blank b ≡ false) × ((b == 35) ≡ false)
digit_outside b h = (grind (arith, nat_tests), grind (arith, nat_tests))

by_letter : {P : Type 0} (t : Bool) → (t ≡ true → P) → (t ≡ false → P) → P
by_letter true if_so if_not = if_so refl
by_letter false if_so if_not = if_not refl

outside_by_view : (kind : TokenKind) (bytes : List ℕ) → TokenView kind bytes → comment_after false (get_or bytes 0 0 ∷ []) ≡ None
outside_by_view kind [] (name e word other) = absurd word
outside_by_view kind (b ∷ bytes) (name e word other) =
    let o = letter_outside b word.0 in outside_gaps b o.0 o.1
outside_by_view kind [] (number e digits) = absurd (omega (arith, digits.0))
outside_by_view kind (b ∷ bytes) (number e digits) =
    let o = digit_outside b (test_from_digit b digits.1.0) in outside_gaps b o.0 o.1
outside_by_view kind [] (fixed e) = absurd (false≢true (shape_is kind [] e))
outside_by_view kind (b ∷ bytes) (fixed e) =
    by_letter (is_ascii_alphabetic b) (λ h. let o = letter_outside b h in outside_gaps b o.0 o.1) (λ h.
    let shape = symbol_shape b bytes (other_shape b bytes h (shape_is kind (b ∷ bytes) e)) in outside_gaps b shape.no_blank shape.no_comment)

pub begins_outside : (kind : TokenKind) (bytes : List ℕ) → IsToken kind bytes → comment_after false (get_or bytes 0 0 ∷ []) ≡ None
begins_outside kind bytes token = outside_by_view kind bytes (view_token kind bytes token)

-- no token has an LF
all_weaker : (p q : ℕ → Bool) → ((b : ℕ) → p b ≡ true → q b ≡ true) → (bytes : List ℕ) → list_all p bytes ≡ true → list_all q bytes ≡ true
all_weaker p q weaker [] h = refl
all_weaker p q weaker (b ∷ bytes) h =
    let parts = and_parts (p b) (list_all p bytes) h in
    rw (weaker b parts.0) (all_weaker p q weaker bytes parts.1)

letter_no_feed : (b : ℕ) → is_ascii_alphabetic b ≡ true → is_no_line_feed b ≡ true
letter_no_feed b h = grind (arith, nat_tests)

name_no_feed : (b : ℕ) → is_name_byte b ≡ true → is_no_line_feed b ≡ true
name_no_feed b h = grind (arith, nat_tests)

digit_no_feed : (b : ℕ) → is_ascii_digit b ≡ true → is_no_line_feed b ≡ true
digit_no_feed b h = grind (arith, nat_tests)

identifier_no_feed : (bytes : List ℕ) → IsIdentifier bytes → list_all is_no_line_feed bytes ≡ true
identifier_no_feed [] word = absurd word
identifier_no_feed (b ∷ bytes) word =
    rw (letter_no_feed b word.0) (all_weaker is_name_byte is_no_line_feed name_no_feed bytes word.1)

digits_no_feed : (bytes : List ℕ) → AllDigits 10 bytes → list_all is_no_line_feed bytes ≡ true
digits_no_feed [] digits = refl
digits_no_feed (b ∷ bytes) digits =
    rw (digit_no_feed b (test_from_digit b digits.0)) (digits_no_feed bytes digits.1)

no_feed_by_view : (kind : TokenKind) (bytes : List ℕ) → TokenView kind bytes → list_all is_no_line_feed bytes ≡ true
no_feed_by_view kind bytes (name e word other) = identifier_no_feed bytes word
no_feed_by_view kind bytes (number e digits) = digits_no_feed bytes digits.1
no_feed_by_view kind [] (fixed e) = refl
no_feed_by_view kind (b ∷ bytes) (fixed e) =
    by_letter (is_ascii_alphabetic b) (λ h. identifier_no_feed (b ∷ bytes) (letter_shape b bytes h (shape_is kind (b ∷ bytes) e))) (λ h.
    let shape = symbol_shape b bytes (other_shape b bytes h (shape_is kind (b ∷ bytes) e)) in shape.one_line)

pub no_line_feed : (kind : TokenKind) (bytes : List ℕ) → IsToken kind bytes → list_all is_no_line_feed bytes ≡ true
no_line_feed kind bytes token = no_feed_by_view kind bytes (view_token kind bytes token)

-- bytes are a token of one kind only
name_not_number : (bytes : List ℕ) → IsIdentifier bytes → IsWholeNumber bytes → ⊥
name_not_number [] word digits = word
name_not_number (b ∷ bytes) word digits = letter_no_digit b word.0 (test_from_digit b digits.1.0)

number_not_fixed : (kind : TokenKind) (bytes : List ℕ) → IsWholeNumber bytes → fixed_text kind ≡ Some bytes → ⊥
number_not_fixed kind [] digits e = omega (arith, digits.0)
number_not_fixed kind (b ∷ bytes) digits e =
    let digit = test_from_digit b digits.1.0 in
    let shape = symbol_shape b bytes (other_shape b bytes (digit_no_letter b digit) (shape_is kind (b ∷ bytes) e)) in
    false≢true (sym shape.no_digit ∙ digit)

same_by_views : (a b : TokenKind) (bytes : List ℕ) → TokenView a bytes → TokenView b bytes → a ≡ b
same_by_views a b bytes (name e word other) (name f w o) = e ∙ sym f
same_by_views a b bytes (name e word other) (number f digits) = absurd (name_not_number bytes word digits)
same_by_views a b bytes (name e word other) (fixed f) = absurd (other (b, f))
same_by_views a b bytes (number e digits) (name f word o) = absurd (name_not_number bytes word digits)
same_by_views a b bytes (number e digits) (number f d) = e ∙ sym f
same_by_views a b bytes (number e digits) (fixed f) = absurd (number_not_fixed b bytes digits f)
same_by_views a b bytes (fixed e) (name f word other) = absurd (other (a, e))
same_by_views a b bytes (fixed e) (number f digits) = absurd (number_not_fixed a bytes digits e)
same_by_views a b bytes (fixed e) (fixed f) = same_fixed a b bytes e f

pub same_kind : (a b : TokenKind) (bytes : List ℕ) → IsToken a bytes → IsToken b bytes → a ≡ b
same_kind a b bytes h k = same_by_views a b bytes (view_token a bytes h) (view_token b bytes k)
