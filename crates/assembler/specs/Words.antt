-- The lines of an assembly text, their words, and what a word writes.
use Rattle.std.specs.Prelude.{◌≡◌, ◌⊎◌, ℕ, ◌<◌, ◌≤◌, ◌^◌, ◌==◌, ℤ, pos, negsuc, Bool, false, not, ◌&&◌, ◌||◌, List, [], ◌∷◌, ◌++◌, map, take_while, length, codes, Some, IsTrue}
use Rattle.std.specs.Char.{is_ascii_alphabetic, is_ascii_alphanumeric}
use Rattle.std.specs.List.{list_all, slice_split}
use Rattle.std.specs.Str.Lines.{strip_carriage_return}
use Rattle.plain_text.specs.Digits.{IsInteger, IsWholeNumber, value_of_digits, value_of_integer}
use Rattle.plain_text.specs.Lookup.{Named, lookup}
use Rattle.plain_text.specs.Words.{words_of}
use Rattle.assembler.specs.Fields.{Field, a_register, an_integer, a_natural, a_place}

-- ---- lines
-- one CR right before an LF is none of the line that the LF ends
abbrev pub without_returns : List (List ℕ) → List (List ℕ)
without_returns [] = []
without_returns (last ∷ []) = last ∷ []
without_returns (line ∷ (next ∷ lines)) = strip_carriage_return line ∷ without_returns (next ∷ lines)

-- the lines of a text are parted by LF
abbrev pub lines_of : List ℕ → List (List ℕ)
lines_of text = without_returns (slice_split (λ b. b == 10) text)

-- a comment begins at the first #, wherever it stands
abbrev pub without_comment : List ℕ → List ℕ
without_comment line = take_while (λ b. not (b == 35)) line

-- the words of a line are parted by spaces and tabs
abbrev pub words_in : List ℕ → List (List ℕ)
words_in line = map (λ word. word.bytes) (words_of (32 ∷ (9 ∷ [])) (without_comment line))

-- the words of each line of a text
abbrev pub said_in : List ℕ → List (List (List ℕ))
said_in text = map words_in (lines_of text)

-- ---- words
-- a name is a letter, and then letters, digits and _
abbrev pub is_name_byte : ℕ → Bool
is_name_byte b = is_ascii_alphanumeric b || b == 95

abbrev pub is_name : List ℕ → Bool
is_name [] = false
is_name (b ∷ bytes) = is_ascii_alphabetic b && list_all is_name_byte bytes

-- The places of names. A name that is written twice has no text, so the first is as good as any.
abbrev pub Places : Type 0
Places = Named ℕ

-- an integer of 128 bits; negsuc n is -(n + 1)
abbrev pub IsInt128 : ℤ → Type 0
IsInt128 (pos n) = n < 2 ^ 127
IsInt128 (negsuc n) = n < 2 ^ 127

-- What a word writes as a field: r and one to three digits, up to 255; an integer of 128 bits; digits up to 2^32 - 1; and
-- for a place such digits, or a name that has it.
abbrev pub Writes : Places → List ℕ → Field → Type 0
Writes places word (a_register r) =
    (digits : List ℕ) × (word ≡ codes "r" ++ digits) × IsWholeNumber digits × (length digits ≤ 3) × (r ≡ value_of_digits digits) × (r ≤ 255)
Writes places word (an_integer x) = IsInteger word × (x ≡ value_of_integer word) × IsInt128 x
Writes places word (a_natural n) = IsWholeNumber word × (n ≡ value_of_digits word) × (n < 2 ^ 32)
Writes places word (a_place n) = (IsWholeNumber word × (n ≡ value_of_digits word) × (n < 2 ^ 32)) ⊎ (IsTrue (is_name word) × (lookup word places ≡ Some n))
