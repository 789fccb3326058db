-- What a line says: its words, with labels tied to places.
use Rattle.std.specs.Prelude.{◌≡◌, ℕ, ◌-◌, ◌==◌, ℤ, Bool, ◌&&◌, List, [], ◌∷◌, length, take, slice_index, codes, if◌then◌else◌}
use Rattle.machine_table.specs.declared.instr.Instr.{Instr}
use Rattle.assembler.specs.Fields.{Field, an_integer, fields_of, mnemonic_of}
use Rattle.assembler.specs.Words.{Places, Writes, is_name}

-- ---- labels
-- a label is a name and a colon, in one word
abbrev pub name_in_label : List ℕ → List ℕ
name_in_label word = take (length word - 1) word

abbrev pub is_label : List ℕ → Bool
is_label word = slice_index word (length word - 1) == 58 && is_name (name_in_label word)

-- the name that a line's words define, where they begin with a label
abbrev pub names_in : List (List ℕ) → List (List ℕ)
names_in [] = []
names_in (word ∷ words) = if is_label word then name_in_label word ∷ [] else []

-- the words after it
abbrev pub without_label : List (List ℕ) → List (List ℕ)
without_label [] = []
without_label (word ∷ words) = if is_label word then words else word ∷ words

-- ---- statements
-- A line has no statement, an instruction, or a data word.
pub data Statement : Type 0 where
  no_statement : Statement
  an_instruction : Instr → Statement
  a_datum : ℤ → Statement

-- as many words as fields, and each writes its field
abbrev pub WriteAll : Places → List (List ℕ) → List Field → Type 0
WriteAll places [] [] = Unit {0}
WriteAll places [] (field ∷ fields) = ⊥
WriteAll places (word ∷ words) [] = ⊥
WriteAll places (word ∷ words) (field ∷ fields) = Writes places word field × WriteAll places words fields

-- the word of the instruction, and then its fields
abbrev pub IsInstruction : Places → List (List ℕ) → Instr → Type 0
IsInstruction places [] instr = ⊥
IsInstruction places (word ∷ words) instr = (word ≡ mnemonic_of instr) × WriteAll places words (fields_of instr)

-- the words of a line say this; a data word has no label
abbrev pub IsStatement : Places → List (List ℕ) → Statement → Type 0
IsStatement places words no_statement = without_label words ≡ []
IsStatement places words (an_instruction instr) = IsInstruction places (without_label words) instr
IsStatement places words (a_datum x) = (word : List ℕ) × (words ≡ codes "data" ∷ (word ∷ [])) × Writes places word (an_integer x)

-- the words have the form of a statement: they say one once each name has some place
abbrev pub IsWellFormed : List (List ℕ) → Type 0
IsWellFormed words = (places : Places) × (statement : Statement) × IsStatement places words statement
