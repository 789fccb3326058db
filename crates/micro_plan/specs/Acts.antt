-- The acts of each instruction, in the order of the instructions' numbers, and those of a run.
use Rattle.std.specs.Prelude.{ℕ, zero, suc, ◌+◌, ℤ, int_lt, nat_lt, unsigned_abs, List, [], ◌∷◌, length, if◌then◌else◌}
use Rattle.std.specs.Ordering.{int_eq}
use Rattle.moduli_sets.specs.Set.{ModuliSet}
use Rattle.moduli_sets.specs.declared.kind.Kind.TheVariants.{Zero, Index, Range, InputEnd, InputRange, Stack}
use Rattle.channel_alu.specs.declared.operation.Place.{Place}
use Rattle.channel_alu.specs.declared.operation.Place.TheVariants.{Reg, Word}
use Rattle.channel_alu.specs.declared.operation.MicroOp.{MicroOp}
use Rattle.channel_alu.specs.declared.operation.MicroOp.TheVariants as micro
use Rattle.machine_table.specs.declared.instr.Instr.{Instr}
use Rattle.machine_table.specs.declared.instr.Instr.TheVariants.{Halt, Ldi, Ld, St, Ldx, Stx, Mov, Add, Sub, Mul, Neg, Mac, Div, Mod, Scl, Jmp, Blt, Beq, Chk, In, Out, Call, Ret, Trp}
use Rattle.machine_table.specs.Control.{Control, next, at_place, with_input, with_places, most_places, halts, traps, kind_numbered, lies_in}
use Rattle.machine_table.specs.Integers.{instruction_at, is_index}
use Rattle.micro_plan.specs.ActTree.{Acts, issue, ask, print, go_on, end_by, then_acts}
use Rattle.micro_plan.specs.Division.{quotient_plan, remainder_plan, scaling_plan}

-- one operation, and then the next instruction
abbrev pub issues : MicroOp → Control → Acts
issues op control = issue op (go_on (next control))

-- a copy to or from the element of a block whose index is told
abbrev pub element_acts : (Place → MicroOp) → ℕ → ℕ → ℕ → ℕ → Control → Acts
element_acts copy b p q line control =
    ask (Reg b) (λ x. if is_index q x then issues (copy (Word (p + unsigned_abs x))) control else end_by (traps Index line))

abbrev pub read_acts : ℕ → ℤ → ℤ → ℕ → List ℤ → Control → Acts
read_acts a low high line [] control = end_by (traps InputEnd line)
read_acts a low high line (x ∷ rest) control =
    if lies_in low high x then issues (micro.Put (Reg a) x) (with_input rest control) else end_by (traps InputRange line)

abbrev pub return_acts : ℕ → List ℕ → Control → Acts
return_acts line [] control = end_by (traps Stack line)
return_acts line (place ∷ places) control = go_on (with_places place places control)

abbrev pub acts_of : ModuliSet → Instr → Control → Acts
acts_of set Halt control = end_by halts
acts_of set (Ldi a value) control = issues (micro.Put (Reg a) value) control
acts_of set (Ld a p) control = issues (micro.Copy (Reg a) (Word p)) control
acts_of set (St a p) control = issues (micro.Copy (Word p) (Reg a)) control
acts_of set (Ldx a b p q line) control = element_acts (λ place. micro.Copy (Reg a) place) b p q line control
acts_of set (Stx a b p q line) control = element_acts (λ place. micro.Copy place (Reg a)) b p q line control
acts_of set (Mov a b) control = issues (micro.Copy (Reg a) (Reg b)) control
acts_of set (Add a b c) control = issues (micro.Add (Reg a) (Reg b) (Reg c)) control
acts_of set (Sub a b c) control = issues (micro.Sub (Reg a) (Reg b) (Reg c)) control
acts_of set (Mul a b c) control = issues (micro.Mul (Reg a) (Reg b) (Reg c)) control
acts_of set (Neg a b) control = issues (micro.Neg (Reg a) (Reg b)) control
acts_of set (Mac a b c) control = issues (micro.MulAdd (Reg a) (Reg b) (Reg c) (Reg a)) control
acts_of set (Div a b c line) control = quotient_plan a b c (end_by (traps Zero line)) (go_on (next control))
acts_of set (Mod a b c line) control = remainder_plan a b c (end_by (traps Zero line)) (go_on (next control))
acts_of set (Scl a b s) control = scaling_plan set a b s (end_by halts) (go_on (next control))
acts_of set (Jmp p) control = go_on (at_place p control)
acts_of set (Blt a b p) control =
    ask (Reg a) (λ x. ask (Reg b) (λ y. go_on (if int_lt x y then at_place p control else next control)))
acts_of set (Beq a b p) control =
    ask (Reg a) (λ x. ask (Reg b) (λ y. go_on (if int_eq x y then at_place p control else next control)))
acts_of set (Chk a low high line) control =
    ask (Reg a) (λ x. if lies_in low high x then go_on (next control) else end_by (traps Range line))
acts_of set (In a low high line) control = read_acts a low high line control.input control
acts_of set (Out a) control = ask (Reg a) (λ x. print x (go_on (next control)))
acts_of set (Call p line) control =
    if nat_lt (length control.places) most_places then go_on (with_places p ((control.counter + 1) ∷ control.places) control)
    else end_by (traps Stack line)
acts_of set (Ret line) control = return_acts line control.places control
acts_of set (Trp k line) control = end_by (traps (kind_numbered k) line)

-- the acts of at most n instructions
abbrev pub acts_of_run : ModuliSet → List Instr → ℕ → Control → Acts
acts_of_run set code zero control = go_on control
acts_of_run set code (suc n) control =
    then_acts (acts_of set (instruction_at code control.counter) control) (acts_of_run set code n)
