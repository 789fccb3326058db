-- Operands of a command line, and files that words name. A word is its bytes; the command is word 0.
use Rattle.std.specs.Prelude.{ℕ, ◌+◌, ◌<◌, ◌&&◌, ◌||◌, Bool, not, List, [], ◌∷◌, length, drop, slice_index_or, Option, Some, None, option_and_then, codes, IsCharBoundary, if◌then◌else◌}
use Rattle.std.specs.Option.{option_map, option_map_or}
use Rattle.std.specs.Str.{bytes_eq}
use Rattle.word_readers.specs.declared.operands.FileWord.{FileWord}
use Rattle.word_readers.specs.Options.{is_option, value_in}

-- ---- reading words
-- what is read in words that are numbered from n on, each with the number of its word
abbrev pub numbered : (List ℕ → Option (List ℕ)) → ℕ → List (List ℕ) → List (ℕ × List ℕ)
numbered read n [] = []
numbered read n (word ∷ words) =
    option_map_or (λ text. (n, text) ∷ numbered read (n + 1) words) (read word) (numbered read (n + 1) words)

-- what is read from word number n on
abbrev pub read_from : (List ℕ → Option (List ℕ)) → ℕ → List (List ℕ) → List (ℕ × List ℕ)
read_from read n words = numbered read n (drop n words)

-- ---- operands
-- a word that is no option is an operand
abbrev pub operand_in : List ℕ → Option (List ℕ)
operand_in word = if is_option word then None else Some word

-- the operands from word number n on
abbrev pub operands_from : ℕ → List (List ℕ) → List (ℕ × List ℕ)
operands_from n words = read_from operand_in n words

-- the operands of a command line: the words from number 1 on that are no options
abbrev pub operands_of : List (List ℕ) → List (ℕ × List ℕ)
operands_of words = operands_from 1 words

-- ---- files
-- a word may name a file: it isn't empty, nor `-`, nor an option
abbrev pub is_file_name : List ℕ → Bool
is_file_name word = not (bytes_eq word []) && (not (bytes_eq word (codes "-")) && not (is_option word))

-- the whole of a word
abbrev pub whole_word : ℕ → FileWord
whole_word n = record { word = n; skip = 0 }

-- the file that an operand names, by the whole of its word
abbrev pub named_file : ℕ × List ℕ → Option FileWord
named_file operand = if is_file_name operand.1 then Some (whole_word operand.0) else None

-- the input that an operand names: a file, or `-`, which is none
abbrev pub named_input : ℕ × List ℕ → Option (Option FileWord)
named_input operand = if bytes_eq operand.1 (codes "-") then Some None else option_map (λ file. Some file) (named_file operand)

-- the file and the input that two operands name
abbrev pub file_and_input : List (ℕ × List ℕ) → Option (FileWord × Option FileWord)
file_and_input (first ∷ (second ∷ [])) =
    option_and_then (λ file. option_map (λ input. (file, input)) (named_input second)) (named_file first)
file_and_input operands = None

-- ---- files of options
-- the values that the words from number n on give the option of a name
abbrev pub values_from : List ℕ → ℕ → List (List ℕ) → List (ℕ × List ℕ)
values_from name n words = read_from (value_in name) n words

-- the value of the option in its word: all after the name and its `=`
abbrev pub value_word : List ℕ → ℕ → FileWord
value_word name n = record { word = n; skip = length name + 1 }

-- the file that a value of the option names: neither nothing nor `-`
abbrev pub file_of_value : List ℕ → ℕ × List ℕ → Option FileWord
file_of_value name value =
    if bytes_eq value.1 [] || bytes_eq value.1 (codes "-") then None else Some (value_word name value.0)

-- the file that an option names by its values, where there is one; none of these where there are two, or it names no file
abbrev pub file_of_values : List ℕ → List (ℕ × List ℕ) → Option (Option FileWord)
file_of_values name [] = Some None
file_of_values name (value ∷ []) = option_map (λ file. Some file) (file_of_value name value)
file_of_values name (value ∷ (other ∷ values)) = None

-- the file that the option of a name names among the words after the command
abbrev pub file_option : List ℕ → List (List ℕ) → Option (Option FileWord)
file_option name words = file_of_values name (values_from name 1 words)

-- ---- file words
-- a file word is a part of one of the words: it begins inside the word, where a character starts, or at its end
pub record IsFileWord (words : List (List ℕ)) (file : FileWord) : Type 0 where
  pub word : file.word < length words
  pub skip : IsCharBoundary (slice_index_or words file.word []) file.skip

-- the part of the words that a file word stands for
abbrev pub file_name : List (List ℕ) → FileWord → List ℕ
file_name words file = drop file.skip (slice_index_or words file.word [])
