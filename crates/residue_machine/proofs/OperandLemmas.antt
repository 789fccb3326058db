-- What an instruction names, and the plan of one that has a plan.
use Rattle.std.proofs.Common.{◌≡◌, ◌≢◌, ℕ, List, All, slice_index_or, refl, sym, ap, ◌∙◌}
use Rattle.std.specs.List.{AllByRecursion}
use Rattle.std.proofs.lemmas.List.Elements.{recursion_from_All}
use Rattle.moduli_sets.specs.Set.{ModuliSet}
use Rattle.moduli_sets.specs.declared.kind.Kind.TheVariants.{Zero}
use Rattle.machine_table.specs.declared.instr.Instr.{Instr}
use Rattle.machine_table.specs.declared.instr.Instr.TheVariants.{Halt, Ldi, Ld, St, Ldx, Stx, Mov, Add, Sub, Mul, Neg, Mac, Div, Mod, Scl, Jmp, Blt, Beq, Chk, In, Out, Call, Ret, Trp}
use Rattle.machine_table.specs.Control.{Control, next, traps}
use Rattle.machine_table.specs.Integers.{instruction_at}
use Rattle.machine_table.specs.Operands.{Operand, Shape, IsSoundOperand}
use Rattle.micro_plan.specs.ActTree.{end_by, go_on}
use Rattle.micro_plan.specs.Acts.{acts_of}
use Rattle.micro_plan.specs.Plans.{IsPlanned, plan_of}
use Rattle.residue_machine.specs.Outcomes.{Manner, operates, shows, steers, tells_line}

-- the instruction at a place, in the list and by the number that were read
pub instruction-is : (xs code : List Instr) (n place : ℕ) (instr : Instr) → xs ≡ code → n ≡ place → slice_index_or xs n Halt ≡ instr → instruction_at code place ≡ instr
instruction-is xs code n place instr same at is =
    sym (ap (λ (ys : List Instr). slice_index_or ys n Halt) same ∙ ap (λ m. slice_index_or code m Halt) at) ∙ is

-- what is named, one after the other
pub named : (shape : Shape) (operands : List Operand) → All (IsSoundOperand shape) operands → AllByRecursion (IsSoundOperand shape) operands
named shape operands h = recursion_from_All (IsSoundOperand shape) operands h

pub shows_left : (m : Manner) → m ≢ operates → m ≢ steers → m ≡ shows
shows_left operates a b = absurd (a refl)
shows_left shows a b = refl
shows_left steers a b = absurd (b refl)

-- the acts of an instruction that has a plan are those of the plan
pub acts-planned : (set : ModuliSet) (instr : Instr) (n : ℕ) (control : Control) → IsPlanned set instr → tells_line n instr → plan_of set instr (end_by (traps Zero n)) (go_on (next control)) ≡ acts_of set instr control
acts-planned set Halt n control h t = absurd h
acts-planned set (Ldi a value) n control h t = absurd h
acts-planned set (Ld a p) n control h t = absurd h
acts-planned set (St a p) n control h t = absurd h
acts-planned set (Ldx a b p q line) n control h t = absurd h
acts-planned set (Stx a b p q line) n control h t = absurd h
acts-planned set (Mov a b) n control h t = absurd h
acts-planned set (Add a b c) n control h t = absurd h
acts-planned set (Sub a b c) n control h t = absurd h
acts-planned set (Mul a b c) n control h t = absurd h
acts-planned set (Neg a b) n control h t = absurd h
acts-planned set (Mac a b c) n control h t = absurd h
acts-planned set (Div a b c line) n control h t = ap (λ m. plan_of set (Div a b c line) (end_by (traps Zero m)) (go_on (next control))) t
acts-planned set (Mod a b c line) n control h t = ap (λ m. plan_of set (Mod a b c line) (end_by (traps Zero m)) (go_on (next control))) t
acts-planned set (Scl a b s) n control h t = refl
acts-planned set (Jmp p) n control h t = absurd h
acts-planned set (Blt a b p) n control h t = absurd h
acts-planned set (Beq a b p) n control h t = absurd h
acts-planned set (Chk a low high line) n control h t = absurd h
acts-planned set (In a low high line) n control h t = absurd h
acts-planned set (Out a) n control h t = absurd h
acts-planned set (Call p line) n control h t = absurd h
acts-planned set (Ret line) n control h t = absurd h
acts-planned set (Trp k line) n control h t = absurd h
