-- What is read in words, from a word on: operands, and values of an option.
use Rattle.std.proofs.Common.{◌≡◌, ℕ, ◌+◌, ◌<◌, List, [], ◌∷◌, Bool, true, false, cond, Option, Some, None, length, get_or, drop, ap, ◌∙◌, add-one, drop-cons}
use Rattle.std.specs.Option.{option_map_or}
use Rattle.word_readers.specs.Options.{is_option}
use Rattle.word_readers.specs.Operands.{numbered, operand_in, operands_from, read_from}

-- ---- any reading
-- what is read from word i on, by what is read in it
at_place : (read : List ℕ → Option (List ℕ)) (words : List (List ℕ)) (i : ℕ) (found : Option (List ℕ)) → i < length words
    → read (get_or words i []) ≡ found
    → read_from read i words ≡ option_map_or (λ text. (i, text) ∷ read_from read (i + 1) words) found (read_from read (i + 1) words)
at_place read words i found some is =
    let at : drop i words ≡ get_or words i [] ∷ drop (i + 1) words = rw (add-one, drop-cons words i []) in
    ap (numbered read i) at ∙ ap (λ r. option_map_or (λ text. (i, text) ∷ read_from read (i + 1) words) r
    (read_from read (i + 1) words)) is

-- a text that is read is the first
pub read_from-found : (read : List ℕ → Option (List ℕ)) (words : List (List ℕ)) (i : ℕ) (text : List ℕ) → i < length words
    → read (get_or words i []) ≡ Some text → read_from read i words ≡ (i, text) ∷ read_from read (i + 1) words
read_from-found read words i text some is = at_place read words i (Some text) some is

-- a word where nothing is read is passed
pub read_from-passed : (read : List ℕ → Option (List ℕ)) (words : List (List ℕ)) (i : ℕ) → i < length words
    → read (get_or words i []) ≡ None → read_from read i words ≡ read_from read (i + 1) words
read_from-passed read words i some is = at_place read words i None some is

-- ---- operands
operand_in-by : (word : List ℕ) (b : Bool) → is_option word ≡ b → operand_in word ≡ cond b None (Some word)
operand_in-by word b is = ap (λ t. cond t None (Some word)) is

-- an operand is the first
pub operands_from-operand : (words : List (List ℕ)) (i : ℕ) → i < length words → is_option (get_or words i []) ≡ false
    → operands_from i words ≡ (i, get_or words i []) ∷ operands_from (i + 1) words
operands_from-operand words i some is =
    read_from-found operand_in words i (get_or words i []) some (operand_in-by (get_or words i []) false is)

-- an option is passed
pub operands_from-option : (words : List (List ℕ)) (i : ℕ) → i < length words → is_option (get_or words i []) ≡ true
    → operands_from i words ≡ operands_from (i + 1) words
operands_from-option words i some is =
    read_from-passed operand_in words i some (operand_in-by (get_or words i []) true is)
