-- What the words of a line say before names have places.
use Rattle.std.specs.Prelude.{◌≡◌, ◌↔◌, ℕ, ℤ, Bool, true, false, List, Some}
use Rattle.plain_text.specs.Lookup.{lookup}
use Rattle.machine_table.specs.declared.instr.Instr.{Instr}
use Rattle.machine_table.specs.declared.instr.Instr.TheVariants.{Jmp, Blt, Beq, Call}
use Rattle.assembler.specs.Words.{Places}
use Rattle.assembler.specs.Statements.{Statement, no_statement, an_instruction, a_datum, IsStatement, without_label}
use Rattle.assembler.specs.Assembly.{has_instruction}

-- Nothing, an instruction, an instruction whose target is that of a name, a data word.
pub data Said : Type 0 where
  says_nothing : Said
  says_instr : Instr → Said
  says_jump : Instr → List ℕ → Said
  says_datum : ℤ → Said

-- an instruction with another target, where it has one
abbrev pub with_target : ℕ → Instr → Instr
with_target p (Jmp q) = Jmp p
with_target p (Blt a b q) = Blt a b p
with_target p (Beq a b q) = Beq a b p
with_target p (Call q line) = Call p line
with_target p instr = instr

-- the statement that it is, once names have places
abbrev pub StandsFor : Places → Said → Statement → Type 0
StandsFor places says_nothing statement = statement ≡ no_statement
StandsFor places (says_instr instr) statement = statement ≡ an_instruction instr
StandsFor places (says_jump instr name) statement = (p : ℕ) × (lookup name places ≡ Some p) × (statement ≡ an_instruction (with_target p instr))
StandsFor places (says_datum x) statement = statement ≡ a_datum x

abbrev pub is_instr : Said → Bool
is_instr says_nothing = false
is_instr (says_instr instr) = true
is_instr (says_jump instr name) = true
is_instr (says_datum x) = false

-- the words of a line, its label aside, say this: with any places they are the statement that it stands for, and no other
pub record IsSaid (words : List (List ℕ)) (said : Said) : Type 0 where
  pub means : (places : Places) (statement : Statement) → IsStatement places words statement ↔ StandsFor places said statement
  pub counts : has_instruction (without_label words) ≡ is_instr said
