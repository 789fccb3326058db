-- The integer machine: what each instruction means where every word is one plain integer.
use Rattle.std.specs.Prelude.{ℕ, zero, suc, ◌+◌, ◌==◌, ℤ, pos, neg_ℤ, ◌+ℤ◌, ◌-ℤ◌, ◌*ℤ◌, int_lt, int_le, nat_lt, unsigned_abs, Bool, ◌&&◌, List, [], ◌∷◌, length, slice_index, slice_index_or, if◌then◌else◌}
use Rattle.std.specs.Ordering.{int_eq}
use Rattle.number_theory.specs.Residue.{quotient}
use Rattle.number_theory.specs.Division.{floor_div, floor_mod}
use Rattle.moduli_sets.specs.Set.{ModuliSet, range_bound}
use Rattle.moduli_sets.specs.declared.kind.Kind.{Kind}
use Rattle.moduli_sets.specs.declared.kind.Kind.TheVariants.{Zero, Index, Range, InputEnd, InputRange, Stack}
use Rattle.machine_table.specs.declared.instr.Instr.{Instr}
use Rattle.machine_table.specs.declared.instr.Instr.TheVariants.{Halt, Ldi, Ld, St, Ldx, Stx, Mov, Add, Sub, Mul, Neg, Mac, Div, Mod, Scl, Jmp, Blt, Beq, Chk, In, Out, Call, Ret, Trp}
use Rattle.machine_table.specs.Control.{is_zero, Control, control_at_start, next, at_place, with_input, with_places, most_places, End, halts, traps, kind_numbered, lies_in}

-- ---- the integers that it holds
-- one in each register and in each data word
pub record Memory : Type 0 where
  pub registers : ℕ → ℤ
  pub words : ℕ → ℤ

-- integers by number, with another one at n
abbrev pub with_entry : ℕ → ℤ → (ℕ → ℤ) → ℕ → ℤ
with_entry n x entries i = if n == i then x else entries i

abbrev pub with_register : ℕ → ℤ → Memory → Memory
with_register a x memory = record { registers = with_entry a x memory.registers; words = memory.words }

abbrev pub with_word : ℕ → ℤ → Memory → Memory
with_word p x memory = record { registers = memory.registers; words = with_entry p x memory.words }

-- 0 in the registers, the data in the words
abbrev pub memory_at_start : List ℤ → Memory
memory_at_start words = record { registers = λ a. pos 0; words = λ p. slice_index_or words p (pos 0) }

-- ---- runs
-- Prints, one after another, and then how far it came: control stands at an instruction, or the program ended, or an
-- integer left the range of the set.
pub data IntegerRun : Type 0 where
  prints : ℤ → IntegerRun → IntegerRun
  stands : Control → Memory → IntegerRun
  stops : End → IntegerRun
  unfit : IntegerRun

-- the integer becomes that of register a, where it is in range
abbrev pub computes : ModuliSet → ℕ → ℤ → Control → Memory → IntegerRun
computes set a x control memory =
    if lies_in (neg_ℤ (pos (range_bound set))) (pos (range_bound set)) x then stands (next control) (with_register a x memory)
    else unfit

-- the integer becomes that of register a, where the divisor isn't 0
abbrev pub divides : ℕ → ℤ → ℤ → ℕ → Control → Memory → IntegerRun
divides a divisor x line control memory =
    if is_zero divisor then stops (traps Zero line) else stands (next control) (with_register a x memory)

-- x is 0 to length - 1
abbrev pub is_index : ℕ → ℤ → Bool
is_index length x = int_le (pos 0) x && int_lt x (pos length)

-- the first number of the input becomes that of register a, where there is one and it lies in low..high
abbrev pub reads : ℕ → ℤ → ℤ → ℕ → List ℤ → Control → Memory → IntegerRun
reads a low high line [] control memory = stops (traps InputEnd line)
reads a low high line (x ∷ rest) control memory =
    if lies_in low high x then stands (next (with_input rest control)) (with_register a x memory)
    else stops (traps InputRange line)

-- control goes to the place held last, which is dropped
abbrev pub returns : ℕ → List ℕ → Control → Memory → IntegerRun
returns line [] control memory = stops (traps Stack line)
returns line (place ∷ places) control memory = stands (with_places place places control) memory

-- one instruction
abbrev pub step : ModuliSet → Instr → Control → Memory → IntegerRun
step set Halt control memory = stops halts
step set (Ldi a value) control memory = stands (next control) (with_register a value memory)
step set (Ld a p) control memory = stands (next control) (with_register a (memory.words p) memory)
step set (St a p) control memory = stands (next control) (with_word p (memory.registers a) memory)
step set (Ldx a b p q line) control memory =
    if is_index q (memory.registers b) then
    stands (next control) (with_register a (memory.words (p + unsigned_abs (memory.registers b))) memory)
    else stops (traps Index line)
step set (Stx a b p q line) control memory =
    if is_index q (memory.registers b) then
    stands (next control) (with_word (p + unsigned_abs (memory.registers b)) (memory.registers a) memory)
    else stops (traps Index line)
step set (Mov a b) control memory = stands (next control) (with_register a (memory.registers b) memory)
step set (Add a b c) control memory = computes set a (memory.registers b +ℤ memory.registers c) control memory
step set (Sub a b c) control memory = computes set a (memory.registers b -ℤ memory.registers c) control memory
step set (Mul a b c) control memory = computes set a (memory.registers b *ℤ memory.registers c) control memory
step set (Neg a b) control memory = stands (next control) (with_register a (neg_ℤ (memory.registers b)) memory)
step set (Mac a b c) control memory =
    computes set a ((memory.registers b *ℤ memory.registers c) +ℤ memory.registers a) control memory
step set (Div a b c line) control memory =
    divides a (memory.registers c) (floor_div (memory.registers b) (memory.registers c)) line control memory
step set (Mod a b c line) control memory =
    divides a (memory.registers c) (floor_mod (memory.registers b) (memory.registers c)) line control memory
step set (Scl a b s) control memory =
    stands (next control) (with_register a (quotient (memory.registers b) (slice_index set.moduli s)) memory)
step set (Jmp p) control memory = stands (at_place p control) memory
step set (Blt a b p) control memory =
    stands (if int_lt (memory.registers a) (memory.registers b) then at_place p control else next control) memory
step set (Beq a b p) control memory =
    stands (if int_eq (memory.registers a) (memory.registers b) then at_place p control else next control) memory
step set (Chk a low high line) control memory =
    if lies_in low high (memory.registers a) then stands (next control) memory else stops (traps Range line)
step set (In a low high line) control memory = reads a low high line control.input control memory
step set (Out a) control memory = prints (memory.registers a) (stands (next control) memory)
step set (Call p line) control memory =
    if nat_lt (length control.places) most_places then
    stands (with_places p ((control.counter + 1) ∷ control.places) control) memory
    else stops (traps Stack line)
step set (Ret line) control memory = returns line control.places control memory
step set (Trp k line) control memory = stops (traps (kind_numbered k) line)

-- the instruction at a place; past the last one it is HALT
abbrev pub instruction_at : List Instr → ℕ → Instr
instruction_at code place = slice_index_or code place Halt

-- a run, and then another one from where it stands
abbrev pub then_run : IntegerRun → (Control → Memory → IntegerRun) → IntegerRun
then_run (prints x run) next = prints x (then_run run next)
then_run (stands control memory) next = next control memory
then_run (stops end) next = stops end
then_run unfit next = unfit

-- at most n instructions, from where control stands
abbrev pub run_from : ModuliSet → List Instr → ℕ → Control → Memory → IntegerRun
run_from set code zero control memory = stands control memory
run_from set code (suc n) control memory =
    then_run (step set (instruction_at code control.counter) control memory) (run_from set code n)

-- at most n instructions of a program, with an input
abbrev pub integer_run : ModuliSet → List Instr → List ℤ → ℕ → List ℤ → IntegerRun
integer_run set code words n input = run_from set code n (control_at_start input) (memory_at_start words)

-- ---- read off a run
abbrev pub printed_by : IntegerRun → List ℤ
printed_by (prints x run) = x ∷ printed_by run
printed_by (stands control memory) = []
printed_by (stops end) = []
printed_by unfit = []

-- how it ended: by itself, where an integer would leave the range, or after the instructions that it was given
pub data IntegerEnding : Type 0 where
  halt : IntegerEnding
  trap : Kind → ℕ → IntegerEnding
  out_of_range : IntegerEnding
  spent : IntegerEnding

abbrev pub ending_of_end : End → IntegerEnding
ending_of_end halts = halt
ending_of_end (traps kind line) = trap kind line

abbrev pub ending_of : IntegerRun → IntegerEnding
ending_of (prints x run) = ending_of run
ending_of (stands control memory) = spent
ending_of (stops end) = ending_of_end end
ending_of unfit = out_of_range

-- no integer of it leaves the range
abbrev pub IsFit : IntegerRun → Type 0
IsFit (prints x run) = IsFit run
IsFit (stands control memory) = Unit {0}
IsFit (stops end) = Unit {0}
IsFit unfit = ⊥
