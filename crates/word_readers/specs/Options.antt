-- Options of a command line. A word is its bytes; the command is word 0.
use Rattle.std.specs.Prelude.{ℕ, ◌==◌, nat_eq, ◌&&◌, ◌||◌, Bool, true, false, not, List, [], ◌∷◌, count_by, drop, Option, Some, None, is_some, codes, if◌then◌else◌}
use Rattle.std.specs.Borrow.{Bor}
use Rattle.std.specs.List.{after_first, before_first, filter_map, list_all, list_any, starts_with}
use Rattle.std.specs.Str.{bytes_eq}
use Rattle.word_readers.specs.declared.options.OptionKind.{OptionKind}
use Rattle.word_readers.specs.declared.options.OptionKind.TheVariants.{Value, Flag}

-- an option begins with `--`
abbrev pub is_option : List ℕ → Bool
is_option word = starts_with nat_eq word (codes "--")

-- ---- the options that a command has
-- the name and the kind of each
abbrev pub OptionTable : Type 0
OptionTable = List (List ℕ × OptionKind)

abbrev pub row_of : Bor (List ℕ) × OptionKind → List ℕ × OptionKind
row_of row = (row.0.now, row.1)

-- the byte `=`
abbrev pub is_equals : ℕ → Bool
is_equals byte = nat_eq byte 61

-- the value that a word `NAME=VALUE` gives the option of a name: all before the first `=` is the name
abbrev pub value_in : List ℕ → List ℕ → Option (List ℕ)
value_in name word =
    if list_any is_equals word && bytes_eq (before_first is_equals word) name then Some (after_first is_equals word) else None

-- the word is the option of a row: with a value, or the name alone
abbrev pub is_row_of : List ℕ → List ℕ × OptionKind → Bool
is_row_of word (name, Value) = is_some (value_in name word)
is_row_of word (name, Flag) = bytes_eq word name

-- an operand, or an option of the table
abbrev pub is_word_of : OptionTable → List ℕ → Bool
is_word_of table word = not (is_option word) || list_any (is_row_of word) table

-- no word after the command is an option that the table hasn't
abbrev pub has_only_options : OptionTable → List (List ℕ) → Bool
has_only_options table words = list_all (is_word_of table) (drop 1 words)

-- ---- what options say
-- the values that the words after the command give the option of a name
abbrev pub values_of : List ℕ → List (List ℕ) → List (List ℕ)
values_of name words = filter_map (value_in name) (drop 1 words)

-- what the option of a name says, by how its value reads, and else a default; none where it is there twice
abbrev pub option_of : {A : Type 0} → (List ℕ → Option A) → A → List (List ℕ) → Option A
option_of read default [] = Some default
option_of read default (value ∷ []) = read value
option_of read default (value ∷ (other ∷ values)) = None

-- whether a flag is there, by how often; none where it is there twice
abbrev pub flag_by_count : ℕ → Option Bool
flag_by_count count = if count == 0 then Some false else if count == 1 then Some true else None

-- whether the flag of a name is among the words after the command
abbrev pub flag_of : List ℕ → List (List ℕ) → Option Bool
flag_of name words = flag_by_count (count_by (λ word. bytes_eq word name) (drop 1 words))
