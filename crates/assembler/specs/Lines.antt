-- What the code's values say: a line's label, and its statement before names have places.
use Rattle.std.specs.Prelude.{◌≡◌, ◌↔◌, ℕ, true, List, [], ◌∷◌, Option, Some, None}
use Rattle.std.specs.Borrow.{Bor}
use Rattle.machine_table.specs.declared.instr.Instr.{Instr}
use Rattle.assembler.specs.declared.statement.Labelled.{Labelled}
use Rattle.assembler.specs.declared.statement.Statement.{Statement}
use Rattle.assembler.specs.declared.statement.Statement.TheVariants.{Nothing, Instruction, Named, Datum}
use Rattle.assembler.specs.Words.{Places}
use Rattle.assembler.specs.Statements.{IsInstruction, an_instruction}
use Rattle.assembler.specs.Assembly.{has_instruction}
use Rattle.assembler.specs.Reading.{Said, StandsFor, is_instr, says_datum, says_instr, says_jump, says_nothing}

-- what a statement of the code says
abbrev pub said_of : Statement → Said
said_of Nothing = says_nothing
said_of (Instruction instr) = says_instr instr
said_of (Named instr name) = says_jump instr name.now
said_of (Datum x) = says_datum x

-- the name that its label defines, where it has one
abbrev pub label_of : Option (Bor (List ℕ)) → List (List ℕ)
label_of None = []
label_of (Some name) = name.now ∷ []

abbrev pub label_names : Labelled → List (List ℕ)
label_names said = label_of said.label

-- the words are no instruction, whatever places names have
abbrev pub IsNoInstruction : List (List ℕ) → Type 0
IsNoInstruction words = (places : Places) (instr : Instr) → IsInstruction places words instr → ⊥

-- the words are the instruction that this stands for, and no other
pub record IsInstructionSaid (words : List (List ℕ)) (said : Said) : Type 0 where
  pub means : (places : Places) (instr : Instr) → IsInstruction places words instr ↔ StandsFor places said (an_instruction instr)
  pub is : is_instr said ≡ true
  pub counts : has_instruction words ≡ true
