-- Worked rows: the operations of the acts of an instruction, Shows among them, where some integers are told.
use Rattle.std.specs.Prelude.{◌≡◌, ℤ, pos, negsuc, List, [], ◌∷◌, refl}
use Rattle.moduli_sets.specs.declared.set_name.SetName.TheVariants.{Pocket}
use Rattle.moduli_sets.specs.Name.{set_of_name}
use Rattle.channel_alu.specs.declared.operation.Place.TheVariants.{Reg, Word}
use Rattle.channel_alu.specs.declared.operation.MicroOp.{MicroOp}
use Rattle.channel_alu.specs.declared.operation.MicroOp.TheVariants.{Put, Copy, MulAdd, Show}
use Rattle.machine_table.specs.declared.instr.Instr.{Instr}
use Rattle.machine_table.specs.declared.instr.Instr.TheVariants.{Ldx, Stx, Mac, Div, Blt, Beq, In, Out}
use Rattle.machine_table.specs.Control.{control_at_start}
use Rattle.micro_plan.specs.ActTree.{Acts, issue, ask, print, go_on, end_by}
use Rattle.micro_plan.specs.Acts.{acts_of}

-- up to the first place for which no integer is told
abbrev pub operations : List ℤ → Acts → List MicroOp
operations told (issue op acts) = op ∷ operations told acts
operations [] (ask place acts) = Show place ∷ []
operations (x ∷ told) (ask place acts) = Show place ∷ operations told (acts x)
operations told (print x acts) = operations told acts
operations told (go_on control) = []
operations told (end_by end) = []

-- of an instruction on `pocket`, where this input is left
abbrev operations_of : Instr → List ℤ → List ℤ → List MicroOp
operations_of instr input told = operations told (acts_of (set_of_name Pocket) instr (control_at_start input))

-- ---- a block of 4 words from word 3 on: its ends, and one past them
first_element : operations_of (Ldx 1 0 3 4 9) [] (pos 0 ∷ []) ≡ Show (Reg 0) ∷ Copy (Reg 1) (Word 3) ∷ []
first_element = refl

last_element : operations_of (Stx 1 0 3 4 9) [] (pos 3 ∷ []) ≡ Show (Reg 0) ∷ Copy (Word 6) (Reg 1) ∷ []
last_element = refl

past_the_block : operations_of (Ldx 1 0 3 4 9) [] (pos 4 ∷ []) ≡ Show (Reg 0) ∷ []
past_the_block = refl

before_the_block : operations_of (Stx 1 0 3 4 9) [] (negsuc 0 ∷ []) ≡ Show (Reg 0) ∷ []
before_the_block = refl

-- ---- the order in which places are shown
less : operations_of (Blt 1 2 7) [] (pos 3 ∷ pos 4 ∷ []) ≡ Show (Reg 1) ∷ Show (Reg 2) ∷ []
less = refl

equal : operations_of (Beq 1 2 7) [] (pos 3 ∷ pos 4 ∷ []) ≡ Show (Reg 1) ∷ Show (Reg 2) ∷ []
equal = refl

by_zero : operations_of (Div 3 1 2 9) [] (pos 7 ∷ pos 0 ∷ []) ≡ Show (Reg 1) ∷ Show (Reg 2) ∷ []
by_zero = refl

-- ---- a product, read numbers and a print
product_and_own : operations_of (Mac 1 2 3) [] [] ≡ MulAdd (Reg 1) (Reg 2) (Reg 3) (Reg 1) ∷ []
product_and_own = refl

highest_read : operations_of (In 1 (negsuc 4) (pos 9) 5) (pos 9 ∷ pos 2 ∷ []) [] ≡ Put (Reg 1) (pos 9) ∷ []
highest_read = refl

too_high : operations_of (In 1 (negsuc 4) (pos 9) 5) (pos 10 ∷ []) [] ≡ []
too_high = refl

none_left : operations_of (In 1 (negsuc 4) (pos 9) 5) [] [] ≡ []
none_left = refl

printed : operations_of (Out 1) [] (pos 3 ∷ []) ≡ Show (Reg 1) ∷ []
printed = refl
