-- A plan, one operation after another.
use Rattle.std.specs.Prelude.{◌≡◌, ℕ, zero, suc, ◌<◌, ℤ, length, Option, Some, None}
use Rattle.moduli_sets.specs.Set.{ModuliSet}
use Rattle.machine_table.specs.declared.instr.Instr.{Instr}
use Rattle.machine_table.specs.declared.instr.Instr.TheVariants.{Halt, Ldi, Ld, St, Ldx, Stx, Mov, Add, Sub, Mul, Neg, Mac, Div, Mod, Scl, Jmp, Blt, Beq, Chk, In, Out, Call, Ret, Trp}
use Rattle.micro_plan.specs.declared.next.Next.{Next}
use Rattle.micro_plan.specs.declared.next.Next.TheVariants.{Issue, Await, Done, Zero}
use Rattle.micro_plan.specs.ActTree.{Acts, issue, ask, print, go_on, end_by}
use Rattle.micro_plan.specs.Division.{Plan, quotient_plan, remainder_plan, scaling_plan}

-- the plan of an instruction; DIV, MOD and SCL have one
abbrev pub no_plan : Plan
no_plan zero_divisor rest = rest

abbrev pub plan_of : ModuliSet → Instr → Plan
plan_of set Halt = no_plan
plan_of set (Ldi a value) = no_plan
plan_of set (Ld a p) = no_plan
plan_of set (St a p) = no_plan
plan_of set (Ldx a b p q line) = no_plan
plan_of set (Stx a b p q line) = no_plan
plan_of set (Mov a b) = no_plan
plan_of set (Add a b c) = no_plan
plan_of set (Sub a b c) = no_plan
plan_of set (Mul a b c) = no_plan
plan_of set (Neg a b) = no_plan
plan_of set (Mac a b c) = no_plan
plan_of set (Div a b c line) = quotient_plan a b c
plan_of set (Mod a b c line) = remainder_plan a b c
plan_of set (Scl a b s) = scaling_plan set a b s
plan_of set (Jmp p) = no_plan
plan_of set (Blt a b p) = no_plan
plan_of set (Beq a b p) = no_plan
plan_of set (Chk a low high line) = no_plan
plan_of set (In a low high line) = no_plan
plan_of set (Out a) = no_plan
plan_of set (Call p line) = no_plan
plan_of set (Ret line) = no_plan
plan_of set (Trp k line) = no_plan

-- an instruction that has a plan; the channel of an SCL is one of the set
abbrev pub IsPlanned : ModuliSet → Instr → Type 0
IsPlanned set Halt = ⊥
IsPlanned set (Ldi a value) = ⊥
IsPlanned set (Ld a p) = ⊥
IsPlanned set (St a p) = ⊥
IsPlanned set (Ldx a b p q line) = ⊥
IsPlanned set (Stx a b p q line) = ⊥
IsPlanned set (Mov a b) = ⊥
IsPlanned set (Add a b c) = ⊥
IsPlanned set (Sub a b c) = ⊥
IsPlanned set (Mul a b c) = ⊥
IsPlanned set (Neg a b) = ⊥
IsPlanned set (Mac a b c) = ⊥
IsPlanned set (Div a b c line) = Unit {0}
IsPlanned set (Mod a b c line) = Unit {0}
IsPlanned set (Scl a b s) = s < length set.moduli
IsPlanned set (Jmp p) = ⊥
IsPlanned set (Blt a b p) = ⊥
IsPlanned set (Beq a b p) = ⊥
IsPlanned set (Chk a low high line) = ⊥
IsPlanned set (In a low high line) = ⊥
IsPlanned set (Out a) = ⊥
IsPlanned set (Call p line) = ⊥
IsPlanned set (Ret line) = ⊥
IsPlanned set (Trp k line) = ⊥

-- What a plan wants next, by what is left of it: an operation is next, and then what is left afterwards; or a place is
-- shown, and what is left afterwards depends on what is told; or nothing is left, now and ever after; or the divisor is 0,
-- now and ever after.
abbrev pub IsNext : Plan → Next → (Option ℤ → Plan) → Type 0
IsNext left (Issue op) after = (zero_divisor rest : Acts) → left zero_divisor rest ≡ issue op (after None zero_divisor rest)
IsNext left (Await place) after =
    (zero_divisor rest : Acts) → left zero_divisor rest ≡ ask place (λ x. after (Some x) zero_divisor rest)
IsNext left Done after = (zero_divisor rest : Acts) → (left zero_divisor rest ≡ rest) × (after None zero_divisor rest ≡ rest)
IsNext left Zero after =
    (zero_divisor rest : Acts) → (left zero_divisor rest ≡ zero_divisor) × (after None zero_divisor rest ≡ zero_divisor)

-- so many operations and Shows at the most, whatever is told
abbrev pub EndsWithin : ℕ → Acts → Type 0
EndsWithin n (print x acts) = EndsWithin n acts
EndsWithin n (go_on control) = Unit {0}
EndsWithin n (end_by end) = Unit {0}
EndsWithin zero (issue op acts) = ⊥
EndsWithin zero (ask place acts) = ⊥
EndsWithin (suc n) (issue op acts) = EndsWithin n acts
EndsWithin (suc n) (ask place acts) = (x : ℤ) → EndsWithin n (acts x)

-- The most operations and Shows of a plan: those of a turned MOD whose loops are left at their last doings. Two Shows, two
-- operations that give signs, two that turn, and one; the outer loop with 127 doings of 643 and one of two; four at the end.
abbrev pub most_operations : ℕ
most_operations = 81674
