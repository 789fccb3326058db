-- What a text of faults says: an entry a line.
use Rattle.std.specs.Prelude.{◌≡◌, ℕ, ◌+◌, ◌-◌, ◌^◌, ◌==◌, Bool, nat_eq, nat_le, ◌&&◌, List, [], ◌∷◌, map, take, length, slice_index_or, filter_map, false, codes, Option, Some, None, if◌then◌else◌}
use Rattle.std.specs.Char.{is_ascii_digit}
use Rattle.std.specs.List.{list_all, list_any, range_with_len, slice_split, starts_with}
use Rattle.std.specs.Str.Lines.{strip_carriage_return}
use Rattle.plain_text.specs.Digits.{value_of_digits}
use Rattle.plain_text.specs.Words.{words_of}
use Rattle.fault_book.specs.declared.reading.BookFault.{BookFault}
use Rattle.fault_book.specs.declared.reading.BookFault.TheVariants.{BadLine, UnknownChannel, Twice, NoMemory}
use Rattle.fault_book.specs.declared.line.Line.{Line}
use Rattle.fault_book.specs.declared.line.Line.TheVariants.{Nothing, Entry, Bad}

-- ---- a line
-- the lines of a text are parted by LF; one CR at the end of a line is none of it
abbrev pub lines_of : List ℕ → List (List ℕ)
lines_of text = map strip_carriage_return (slice_split (λ b. b == 10) text)

-- its words are parted by spaces and tabs
abbrev pub words_in : List ℕ → List (List ℕ)
words_in line = map (λ word. word.bytes) (words_of (32 ∷ (9 ∷ [])) line)

-- decimal digits of no more than this value
abbrev pub is_number_up_to : ℕ → List ℕ → Bool
is_number_up_to most word = list_all is_ascii_digit word && nat_le (value_of_digits word) most

-- Three numbers are an entry: a channel, the number of an answer, a value.
abbrev pub line_of_words : List (List ℕ) → Line
line_of_words [] = Nothing
line_of_words (channel ∷ (number ∷ (value ∷ []))) =
    if is_number_up_to (2 ^ 32 - 1) channel && is_number_up_to (2 ^ 64 - 1) number && is_number_up_to (2 ^ 32 - 1) value
    then Entry (value_of_digits channel) (value_of_digits number) (value_of_digits value) else Bad
line_of_words words = Bad

-- what a line says; one that begins with # is a comment
abbrev pub line_of : List ℕ → Line
line_of line = if starts_with nat_eq line (codes "#") then Nothing else line_of_words (words_in line)

-- ---- a text
-- the entries of lines, in order
abbrev pub entry_of : Line → Option ((ℕ × ℕ) × ℕ)
entry_of Nothing = None
entry_of (Entry channel number value) = Some ((channel, number), value)
entry_of Bad = None

-- what the lines of a text say, in order
abbrev pub said_in : List ℕ → List Line
said_in text = map line_of (lines_of text)

abbrev pub entries_of : List ℕ → List ((ℕ × ℕ) × ℕ)
entries_of text = filter_map entry_of (said_in text)

-- the line has an entry of this answer
abbrev pub is_of_answer : ℕ → ℕ → Line → Bool
is_of_answer channel number Nothing = false
is_of_answer channel number (Entry c n value) = channel == c && number == n
is_of_answer channel number Bad = false

-- How a line breaks a rule, where it does, and the first of the rules that it breaks; `earlier` are the lines before it, and
-- lines are numbered from 1.
abbrev pub line_fault : ℕ → List Line → Line → ℕ → Option BookFault
line_fault channels earlier Nothing n = None
line_fault channels earlier (Entry channel number value) n =
    if nat_le channels channel then Some (UnknownChannel n)
    else if list_any (is_of_answer channel number) earlier then Some (Twice n)
    else None
line_fault channels earlier Bad n = Some (BadLine n)

-- how line i breaks one, counted from 0
abbrev pub fault_at_line : ℕ → List Line → ℕ → Option BookFault
fault_at_line channels lines i = line_fault channels (take i lines) (slice_index_or lines i Nothing) (i + 1)

-- the faults of a text for a set of so many channels, a line at a time
abbrev pub book_faults : ℕ → List ℕ → List BookFault
book_faults channels text = filter_map (fault_at_line channels (said_in text)) (range_with_len 0 (length (said_in text)))

-- what a refusal says of a text: it is the first of its faults, or memory ran out
abbrev pub IsBookFault : ℕ → List ℕ → BookFault → Type 0
IsBookFault channels text NoMemory = Unit {0}
IsBookFault channels text fault = (more : List BookFault) × (book_faults channels text ≡ fault ∷ more)
