-- What a text says: an object, or why it is refused.
use Rattle.std.specs.Prelude.{◌≡◌, ◌≢◌, ◌⊎◌, ℕ, ◌+◌, ◌<◌, ℤ, Bool, true, false, List, [], ◌∷◌, ◌++◌, length, take, map, codes, slice_index, slice_index_or, All, AllPairs, Some, IsTrue, not, if◌then◌else◌}
use Rattle.std.specs.List.{flat_map, list_any}
use Rattle.std.specs.Str.{bytes_eq}
use Rattle.moduli_sets.specs.declared.set_name.SetName.{SetName}
use Rattle.moduli_sets.specs.Name.{set_of_name, word_of_name}
use Rattle.machine_table.specs.declared.fault.ObjectFault.{ObjectFault}
use Rattle.machine_table.specs.declared.fault.ObjectFault.TheVariants.{TooMuchCode, TooMuchData, BadRegister, BadTarget, BadAddress, BadConstant, BadDatum}
use Rattle.machine_table.specs.declared.instr.Instr.{Instr}
use Rattle.machine_table.specs.Faults.{most_instructions, most_words, object_fault}
use Rattle.assembler.specs.declared.fault.AsmFault.{AsmFault}
use Rattle.assembler.specs.declared.fault.AsmFault.TheVariants.{BadLine, TwiceNamed, UnknownName, Unsound, NoMemory}
use Rattle.assembler.specs.Words.{Places, said_in}
use Rattle.assembler.specs.Statements.{Statement, no_statement, an_instruction, a_datum, IsStatement, IsWellFormed, names_in, without_label}

-- ---- statements in a row
abbrev pub instr_in : Statement → List Instr
instr_in no_statement = []
instr_in (an_instruction instr) = instr ∷ []
instr_in (a_datum x) = []

abbrev pub datum_in : Statement → List ℤ
datum_in no_statement = []
datum_in (an_instruction instr) = []
datum_in (a_datum x) = x ∷ []

-- the instructions and the data words of statements, each in order
abbrev pub code_in : List Statement → List Instr
code_in statements = flat_map instr_in statements

abbrev pub data_in : List Statement → List ℤ
data_in statements = flat_map datum_in statements

-- whether the words of a line after the set line have an instruction: all that stands after a label, and is no data word
abbrev pub has_instruction : List (List ℕ) → Bool
has_instruction [] = false
has_instruction (word ∷ words) = not (bytes_eq word (codes "data"))

-- A label names the number of the next instruction: so many stand in the lines before it.
abbrev pub places_from : ℕ → List (List (List ℕ)) → Places
places_from n [] = []
places_from n (words ∷ lines) =
    map (λ name. (name, n)) (names_in words) ++ places_from (if has_instruction (without_label words) then n + 1 else n) lines

-- each line says its statement
abbrev pub AreStatements : Places → List (List (List ℕ)) → List Statement → Type 0
AreStatements places [] [] = Unit {0}
AreStatements places [] (said ∷ statements) = ⊥
AreStatements places (words ∷ lines) [] = ⊥
AreStatements places (words ∷ lines) (said ∷ statements) = IsStatement places words said × AreStatements places lines statements

-- ---- a text
-- the words of the set line
abbrev pub set_line : SetName → List (List ℕ)
set_line set = codes "set" ∷ (word_of_name set ∷ [])

abbrev pub are_empty : List (List (List ℕ)) → Bool
are_empty [] = true
are_empty ([] ∷ lines) = are_empty lines
are_empty ((word ∷ words) ∷ lines) = false

-- no name is that of two labels
abbrev pub names_of : List (List (List ℕ)) → List (List ℕ)
names_of lines = flat_map names_in lines

abbrev pub AreDifferent : List (List ℕ) → Type 0
AreDifferent names = AllPairs (λ a b. a ≢ b) names

-- Lines are a program for a set: empty ones, the set line, and one for each statement; a label's name stands for the place
-- that the statements give it.
pub record IsProgram (lines : List (List (List ℕ))) (set : SetName) (statements : List Statement) : Type 0 where
  pub before : List (List (List ℕ))
  pub after : List (List (List ℕ))
  pub parts : lines ≡ before ++ set_line set ∷ after
  pub empty : IsTrue (are_empty before)
  pub names : AreDifferent (names_of after)
  pub said : AreStatements (places_from 0 after) after statements

-- a text spells a program
abbrev pub Spells : List ℕ → SetName → List Instr → List ℤ → Type 0
Spells text set code words =
    (statements : List Statement) × IsProgram (said_in text) set statements × (code ≡ code_in statements) × (words ≡ data_in statements)

-- ---- refusals
-- the set line has a form of its own: it is the first that has a word
abbrev pub HasForm : List (List (List ℕ)) → List (List ℕ) → Type 0
HasForm before words =
    ((are_empty before ≡ true) × ((words ≡ []) ⊎ ((set : SetName) × (words ≡ set_line set))))
    ⊎ ((are_empty before ≡ false) × IsWellFormed words)

-- a label has no name of a line before
abbrev pub IsNew : List (List (List ℕ)) → List (List ℕ) → Type 0
IsNew before words = All (λ name. list_any (bytes_eq name) (names_of before) ≡ false) (names_in words)

-- line i of a text, and the lines before it; lines are counted from 0 here
abbrev pub line : List (List (List ℕ)) → ℕ → List (List ℕ)
line lines i = slice_index_or lines i []

-- each of the first n lines has the form of its place, and no label of them stands twice
abbrev pub AreLawful : ℕ → List (List (List ℕ)) → Type 0
AreLawful n lines = (i : ℕ) → i < n → HasForm (take i lines) (line lines i) × IsNew (take i lines) (line lines i)

-- the words say something, with these places
abbrev pub Says : Places → List (List ℕ) → Type 0
Says places words = (statement : Statement) × IsStatement places words statement

-- all lines are lawful, and the targets of the first n lines after the set line are named
pub record AreNamedUpTo (lines : List (List (List ℕ))) (n : ℕ) (places : Places) (before after : List (List (List ℕ))) : Type 0 where
  pub lawful : AreLawful (length lines) lines
  pub set : SetName
  pub parts : lines ≡ before ++ set_line set ∷ after
  pub empty : IsTrue (are_empty before)
  pub tied : places ≡ places_from 0 after
  pub named : (i : ℕ) → i < n → Says places (line after i)

-- the lines of the instructions, and of the data words, where the first statement stands on line n
abbrev pub code_lines : ℕ → List Statement → List ℕ
code_lines n [] = []
code_lines n (no_statement ∷ statements) = code_lines (n + 1) statements
code_lines n (an_instruction instr ∷ statements) = n ∷ code_lines (n + 1) statements
code_lines n (a_datum x ∷ statements) = code_lines (n + 1) statements

abbrev pub data_lines : ℕ → List Statement → List ℕ
data_lines n [] = []
data_lines n (no_statement ∷ statements) = data_lines (n + 1) statements
data_lines n (an_instruction instr ∷ statements) = data_lines (n + 1) statements
data_lines n (a_datum x ∷ statements) = n ∷ data_lines (n + 1) statements

-- the line of a fault: that of its instruction or data word, and where there are too many that of the first too many
abbrev pub line_of_fault : ObjectFault → ℕ → List Statement → ℕ
line_of_fault TooMuchCode n statements = slice_index (code_lines n statements) most_instructions
line_of_fault TooMuchData n statements = slice_index (data_lines n statements) most_words
line_of_fault (BadRegister k) n statements = slice_index (code_lines n statements) k
line_of_fault (BadTarget k) n statements = slice_index (code_lines n statements) k
line_of_fault (BadAddress k) n statements = slice_index (code_lines n statements) k
line_of_fault (BadConstant k) n statements = slice_index (code_lines n statements) k
line_of_fault (BadDatum k) n statements = slice_index (data_lines n statements) k

-- why a text is refused; of these one comes at the most, but for want of memory
abbrev pub IsRefused : List (List (List ℕ)) → AsmFault → Type 0
IsRefused lines (BadLine n) =
    ((i : ℕ) × (n ≡ i + 1) × (i < length lines) × AreLawful i lines × (HasForm (take i lines) (line lines i) → ⊥))
    ⊎ ((n ≡ 1) × IsTrue (are_empty lines))
IsRefused lines (TwiceNamed n) =
    (i : ℕ) × (n ≡ i + 1) × (i < length lines) × AreLawful i lines × HasForm (take i lines) (line lines i) × (IsNew (take i lines) (line lines i) → ⊥)
IsRefused lines (UnknownName n) =
    (before after : List (List (List ℕ))) × (places : Places) × (i : ℕ) × (n ≡ length before + i + 2) × (i < length after)
    × AreNamedUpTo lines i places before after × (Says places (line after i) → ⊥)
IsRefused lines (Unsound fault n) =
    (set : SetName) × (statements : List Statement) × (program : IsProgram lines set statements)
    × (object_fault (set_of_name set) (code_in statements) (data_in statements) ≡ Some fault)
    × (n ≡ line_of_fault fault (length program.before + 2) statements)
IsRefused lines NoMemory = Unit {0}

-- what a call refuses of a text
abbrev pub IsRefusal : List ℕ → AsmFault → Type 0
IsRefusal text fault = IsRefused (said_in text) fault
