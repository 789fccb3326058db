-- The lines of a text that were read, and the program that they are.
use Rattle.std.specs.Prelude.{◌≡◌, ℕ, ◌+◌, ◌<◌, ℤ, List, [], ◌∷◌, ◌++◌, length, map, All, count_by, Option, Some, None, IsTrue, slice_index, slice_index_or}
use Rattle.plain_text.specs.Lookup.{lookup}
use Rattle.machine_table.specs.declared.fault.ObjectFault.{ObjectFault}
use Rattle.machine_table.specs.declared.fault.ObjectFault.TheVariants.{TooMuchCode, TooMuchData, BadRegister, BadTarget, BadAddress, BadConstant, BadDatum}
use Rattle.machine_table.specs.declared.instr.Instr.{Instr}
use Rattle.machine_table.specs.Faults.{most_instructions, most_words}
use Rattle.assembler.specs.Words.{Places}
use Rattle.assembler.specs.Statements.{Statement}
use Rattle.assembler.specs.Assembly.{AreDifferent, AreLawful, IsRefused, are_empty, code_in, code_lines, data_in, data_lines, names_of, places_from, set_line}
use Rattle.assembler.specs.Reading.{IsSaid, Said, StandsFor, is_instr, says_nothing}
use Rattle.assembler.specs.Lines.{said_of}
use Rattle.assembler.specs.declared.fault.AsmFault.{AsmFault}
use Rattle.assembler.specs.declared.fault.AsmFault.TheVariants.{BadLine, TwiceNamed, UnknownName, Unsound, NoMemory}
use Rattle.assembler.specs.declared.program.Linked.{Linked}
use Rattle.assembler.specs.declared.program.Program.{Program}

-- ---- lines and what they say
-- the lines say these, one each
abbrev pub AreSaid : List (List (List ℕ)) → List Said → Type 0
AreSaid [] [] = Unit {0}
AreSaid [] (said ∷ saids) = ⊥
AreSaid (words ∷ lines) [] = ⊥
AreSaid (words ∷ lines) (said ∷ saids) = IsSaid words said × AreSaid lines saids

-- what the lines of a program say, in order
abbrev pub saids_of : Program → List Said
saids_of program = map said_of program.statements.items

-- Lines that break no rule are read into a program: empty ones, its set line, and one for each of its statements.
pub record IsTaken (lines : List (List (List ℕ))) (program : Program) : Type 0 where
  pub before : List (List (List ℕ))
  pub after : List (List (List ℕ))
  pub parts : lines ≡ before ++ set_line program.set ∷ after
  pub empty : IsTrue (are_empty before)
  pub numbered : program.set_number ≡ length before + 1
  pub said : AreSaid after (saids_of program)
  pub different : AreDifferent (names_of after)
  pub placed : program.places ≡ places_from 0 after
  pub counted : program.instructions ≡ count_by is_instr (saids_of program)
  pub lawful : AreLawful (length lines) lines

-- before the set line there is no program, and no line has a word
abbrev pub IsRead : List (List (List ℕ)) → Option Program → Type 0
IsRead lines None = IsTrue (are_empty lines)
IsRead lines (Some program) = IsTaken lines program

-- a text of these lines is refused for its next line, whatever lines follow
abbrev pub IsRefusedAt : List (List (List ℕ)) → List (List ℕ) → AsmFault → Type 0
IsRefusedAt lines words fault = (more : List (List (List ℕ))) → IsRefused (lines ++ words ∷ more) fault

-- ---- names and places
-- what is said stands for a statement, with these places
abbrev pub Stands : Places → Said → Type 0
Stands places said = (statement : Statement) × StandsFor places said statement

-- each stands for its statement
abbrev pub AreTied : Places → List Said → List Statement → Type 0
AreTied places [] [] = Unit {0}
AreTied places [] (first ∷ statements) = ⊥
AreTied places (said ∷ saids) [] = ⊥
AreTied places (said ∷ saids) (first ∷ statements) = StandsFor places said first × AreTied places saids statements

-- the instructions and the data words of what is said, each with its line, where the first line is n
pub record IsLinked (places : Places) (n : ℕ) (saids : List Said) (linked : Linked) : Type 0 where
  pub statements : List Statement
  pub tied : AreTied places saids statements
  pub code : linked.code.items ≡ code_in statements
  pub code_lines : linked.code_lines.items ≡ code_lines n statements
  pub words : linked.words.items ≡ data_in statements
  pub data_lines : linked.data_lines.items ≡ data_lines n statements

-- A name of these has a place already, and the label is on this line.
abbrev pub IsTwice : Places → List (List ℕ) → ℕ → AsmFault → Type 0
IsTwice places names n (TwiceNamed line) = (line ≡ n) × (All (λ name. lookup name places ≡ None) names → ⊥)
IsTwice places names n (BadLine line) = ⊥
IsTwice places names n (UnknownName line) = ⊥
IsTwice places names n (Unsound fault line) = ⊥
IsTwice places names n NoMemory = Unit {0}

-- what this line says stands for no statement
abbrev pub IsUntied : Places → Said → ℕ → AsmFault → Type 0
IsUntied places said n (UnknownName line) = (line ≡ n) × (Stands places said → ⊥)
IsUntied places said n (BadLine line) = ⊥
IsUntied places said n (TwiceNamed line) = ⊥
IsUntied places said n (Unsound fault line) = ⊥
IsUntied places said n NoMemory = Unit {0}

-- these instructions and data words, with their lines, are put behind the others
pub record IsLonger (old : Linked) (instrs : List Instr) (instr_lines : List ℕ) (integers : List ℤ) (datum_lines : List ℕ) (new : Linked) : Type 0 where
  pub code : new.code.items ≡ old.code.items ++ instrs
  pub code_lines : new.code_lines.items ≡ old.code_lines.items ++ instr_lines
  pub words : new.words.items ≡ old.words.items ++ integers
  pub data_lines : new.data_lines.items ≡ old.data_lines.items ++ datum_lines

-- the first that stands for no statement is on this line, where the first line is n
abbrev pub IsFirstUntied : Places → ℕ → List Said → AsmFault → Type 0
IsFirstUntied places n saids (UnknownName line) =
    (i : ℕ) × (line ≡ n + i) × (i < length saids) × ((j : ℕ) → j < i → Stands places (slice_index_or saids j says_nothing)) × (Stands places (slice_index_or saids i says_nothing) → ⊥)
IsFirstUntied places n saids (BadLine line) = ⊥
IsFirstUntied places n saids (TwiceNamed line) = ⊥
IsFirstUntied places n saids (Unsound fault line) = ⊥
IsFirstUntied places n saids NoMemory = Unit {0}

-- A fault is of one of so many instructions or of one of so many data words, or there are too many of these.
abbrev pub IsThere : ObjectFault → ℕ → ℕ → Type 0
IsThere TooMuchCode instructions words = most_instructions < instructions
IsThere TooMuchData instructions words = most_words < words
IsThere (BadRegister k) instructions words = k < instructions
IsThere (BadTarget k) instructions words = k < instructions
IsThere (BadAddress k) instructions words = k < instructions
IsThere (BadConstant k) instructions words = k < instructions
IsThere (BadDatum k) instructions words = k < words

-- the line of a fault, by the lines of the instructions and those of the data words
abbrev pub fault_line : ObjectFault → List ℕ → List ℕ → ℕ
fault_line TooMuchCode code_lines data_lines = slice_index code_lines most_instructions
fault_line TooMuchData code_lines data_lines = slice_index data_lines most_words
fault_line (BadRegister k) code_lines data_lines = slice_index code_lines k
fault_line (BadTarget k) code_lines data_lines = slice_index code_lines k
fault_line (BadAddress k) code_lines data_lines = slice_index code_lines k
fault_line (BadConstant k) code_lines data_lines = slice_index code_lines k
fault_line (BadDatum k) code_lines data_lines = slice_index data_lines k
