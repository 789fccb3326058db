-- The acts of each instruction come to what the integer machine says of it.
use Rattle.std.proofs.Common.{◌≡◌, ℕ, zero, suc, ◌+◌, ◌-◌, ◌^◌, ◌<◌, ◌≤◌, Bool, true, false, List, [], ◌∷◌, take, length, slice_index, All, Option, None, refl, sym, subst, arith, ℤ, pos, neg_ℤ, ◌+ℤ◌, ◌-ℤ◌, ◌*ℤ◌, ◌≤ℤ◌, length-drop}
use Rattle.std.specs.Prelude.{if◌then◌else◌, int_le, nat_lt, unsigned_abs, T}
use Rattle.std.specs.List.{AllByRecursion as ByRecursion}
use Rattle.std.specs.Int.Signed.{le_z_yes}
use Rattle.std.proofs.lemmas.Bool.{and_parts}
use Rattle.std.proofs.lemmas.List.Elements.{All-get_or, recursion_from_All}
use Rattle.std.proofs.lemmas.Nat.{le-div}
use Rattle.std.proofs.Math.Nat.{mul-div-le, mul-le-mul_left}
use Rattle.number_theory.specs.Coprime.{product}
use Rattle.number_theory.specs.Residue.{quotient}
use Rattle.number_theory.specs.Division.{floor_div, floor_mod}
use Rattle.moduli_sets.specs.Set.{ModuliSet, IsModuliSet, IsModulus, IsInRange, information_product, range_bound}
use Rattle.moduli_sets.specs.declared.kind.Kind.TheVariants.{Zero, Index, Range, InputRange, Stack}
use Rattle.channel_alu.specs.declared.operation.Place.{Place}
use Rattle.channel_alu.specs.declared.operation.Place.TheVariants.{Reg, Word}
use Rattle.channel_alu.specs.declared.operation.MicroOp.TheVariants as micro
use Rattle.channel_lane.specs.Meaning.{with_integer}
use Rattle.machine_table.specs.declared.instr.Instr.{Instr}
use Rattle.machine_table.specs.declared.instr.Instr.TheVariants.{Halt, Ldi, Ld, St, Ldx, Stx, Mov, Add, Sub, Mul, Neg, Mac, Div, Mod, Scl, Jmp, Blt, Beq, Chk, In, Out, Call, Ret, Trp}
use Rattle.machine_table.specs.Control.{Control, next, with_input, with_places, most_places, traps, lies_in, is_negative, is_zero}
use Rattle.machine_table.specs.Integers.{IntegerRun, stands, unfit, with_register, computes, divides, reads, returns, is_index, step, IsFit}
use Rattle.machine_table.specs.Operands.{Shape, IsSoundOperand, operands_of}
use Rattle.micro_plan.specs.ActTree.{Acts, go_on, end_by}
use Rattle.micro_plan.specs.Division.{division_acts, quotient_plan_or, remainder_plan_or, quotient_acts, remainder_acts, sign_acts, turning_acts, counting_acts, is_turned}
use Rattle.micro_plan.specs.Acts.{issues, read_acts, return_acts, acts_of}
use Rattle.micro_plan.specs.Told.{memory_of, AreInRange}
use Rattle.micro_plan.proofs.ToldLemmas.{ComesTo, ComesTo-or_end, ComesTo-end_or, AreInRange-with, IsInRange-neg, IsInRange-between, IsInRange-quotient}
use Rattle.micro_plan.proofs.DivisionSigns.{signed, dividend, quotient_is, remainder_is, division-comes, quotient-comes, remainder-comes, IsInRange-floor_div, divisor_fits}
use Rattle.micro_plan.proofs.DivisionLoops.{IsCounting}

-- ---- sets
product_positive : (ms : List ℕ) → ByRecursion IsModulus ms → 1 ≤ product ms
product_positive [] h = omega arith
product_positive (m ∷ ms) h =
    let two = h.0.at_least_two in
    omega (arith, product_positive ms h.1, mul-le-mul_left m (product_positive ms h.1))

product-take : (n : ℕ) (ms : List ℕ) → ByRecursion IsModulus ms → product (take n ms) ≤ product ms
product-take zero ms h = product_positive ms h
product-take (suc n) [] h = omega arith
product-take (suc n) (m ∷ ms) h = mul-le-mul_left m (product-take n ms h.1)

bound_small : (set : ModuliSet) → IsModuliSet set → range_bound set < 2 ^ 126
bound_small set rules =
    let fits = rules.fits in
    let part = product-take set.info set.moduli (recursion_from_All IsModulus set.moduli rules.moduli) in
    omega (arith, part, mul-div-le (information_product set - 1) 2)

bound_some : (set : ModuliSet) → IsModuliSet set → 1 ≤ range_bound set
bound_some set rules =
    let wide = rules.wide in
    le-div 1 (information_product set - 1) 2 (omega arith) (omega arith)

pub info_below : (set : ModuliSet) → IsModuliSet set → set.info < length set.moduli
info_below set rules =
    let odd = rules.odd in
    omega (arith, length-drop set.info set.moduli)

-- ---- tests
within : (low high x : ℤ) → lies_in low high x ≡ true → (low ≤ℤ x) × (x ≤ℤ high)
within low high x e =
    let both = and_parts (int_le low x) (int_le x high) e in
    (le_z_yes (subst T (sym both.0) tt), le_z_yes (subst T (sym both.1) tt))

passed : (t : Bool) (run : IntegerRun) → IsFit (if t then run else unfit) → (t ≡ true) × ((if t then run else unfit) ≡ run)
passed true run fit = (refl, refl)
passed false run fit = absurd fit

-- ---- one operation
-- it leaves x at a place
put-comes : (set : ModuliSet) (to : Place) (x : ℤ) (control : Control) (at : Place → ℤ) → AreInRange set at → IsInRange set x
    → ComesTo set (issues (micro.Put to x) control) at (stands (next control) (memory_of (with_integer at to x)))
put-comes set to x control at fits in_x = (refl, (tt, AreInRange-with set at to x fits in_x, tt))

-- what the integer machine computes is in range
computes-comes : (set : ModuliSet) (a : ℕ) (x : ℤ) (control : Control) (at : Place → ℤ) → AreInRange set at → IsFit (computes set a x control (memory_of at))
    → ComesTo set (issues (micro.Put (Reg a) x) control) at (computes set a x control (memory_of at))
computes-comes set a x control at fits fit =
    let bound = pos (range_bound set) in
    let p = passed (lies_in (neg_ℤ bound) bound x) (stands (next control) (with_register a x (memory_of at))) fit in
    let ends = within (neg_ℤ bound) bound x p.0 in
    (sym p.1, (put-comes set (Reg a) x control at fits (record { low = ends.0; high = ends.1 })).1)

-- ---- reading and returning
reads-comes : (set : ModuliSet) (a : ℕ) (low high : ℤ) (line : ℕ) (input : List ℤ) (control : Control) (at : Place → ℤ) → IsInRange set low → IsInRange set high → AreInRange set at
    → ComesTo set (read_acts a low high line input control) at (reads a low high line input control (memory_of at))
reads-comes set a low high line [] control at l h fits = (refl, tt)
reads-comes set a low high line (x ∷ rest) control at l h fits =
    ComesTo-or_end set (lies_in low high x) (issues (micro.Put (Reg a) x) (with_input rest control)) (traps InputRange line) at
    (stands (next (with_input rest control)) (with_register a x (memory_of at)))
    (λ e. let ends = within low high x e in
    put-comes set (Reg a) x (with_input rest control) at fits (IsInRange-between set low high x l h ends.0 ends.1))

returns-comes : (set : ModuliSet) (line : ℕ) (places : List ℕ) (control : Control) (at : Place → ℤ) → ComesTo set (return_acts line places control) at (returns line places control (memory_of at))
returns-comes set line [] control at = (refl, tt)
returns-comes set line (place ∷ places) control at = (refl, tt)

-- ---- dividing
-- a plan whose last operations make v in register a
divides-comes : (instead : Option Acts) (set : ModuliSet) (a b c line : ℕ) (v : ℤ) (control : Control) (at : Place → ℤ) (finish : Bool → Bool → Acts) → IsModuliSet set → AreInRange set at
    → (is_zero (at (Reg c)) ≡ false → (at' : Place → ℤ) (r q : ℕ) → IsCounting set (memory_of at) (unsigned_abs (at (Reg c))) (dividend (signed (is_negative (at (Reg c))) (at (Reg b)))) r q at' → r < unsigned_abs (at (Reg c))
    → ComesTo set (finish (is_negative (at (Reg c))) (is_negative (signed (is_negative (at (Reg c))) (at (Reg b))))) at' (stands (next control) (with_register a v (memory_of at))))
    → ComesTo set (division_acts instead b c (end_by (traps Zero line)) finish) at (divides a (at (Reg c)) v line control (memory_of at))
divides-comes instead set a b c line v control at finish rules fits last =
    let x = at (Reg b) in
    let y = at (Reg c) in
    let run = stands (next control) (with_register a v (memory_of at)) in
    ComesTo-end_or set (is_zero y) (sign_acts (is_negative y) b c (turning_acts (is_turned x y) (counting_acts instead (finish (is_negative y) (is_turned x y))))) (traps Zero line) at run
    (λ apart. division-comes set run (bound_some set rules) instead b c at finish (bound_small set rules) fits apart (last apart))

pub quotient_plan-comes : (instead : Option Acts) (set : ModuliSet) (a b c line : ℕ) (control : Control) (at : Place → ℤ) → IsModuliSet set → AreInRange set at
    → ComesTo set (quotient_plan_or instead a b c (end_by (traps Zero line)) (go_on (next control))) at (divides a (at (Reg c)) (floor_div (at (Reg b)) (at (Reg c))) line control (memory_of at))
quotient_plan-comes instead set a b c line control at rules fits =
    let x = at (Reg b) in
    let y = at (Reg c) in
    let v = floor_div x y in
    divides-comes instead set a b c line v control at (λ negative turned. quotient_acts a turned (go_on (next control))) rules fits
    (λ apart at' r q h below. quotient-comes set a (next control) (memory_of at) (bound_some set rules) (signed (is_negative y) x) v (unsigned_abs y) r q at' h
    (quotient_is x y r q below h.whole) (IsInRange-floor_div set x y apart (fits (Reg b))))

pub remainder_plan-comes : (instead : Option Acts) (set : ModuliSet) (a b c line : ℕ) (control : Control) (at : Place → ℤ) → IsModuliSet set → AreInRange set at
    → ComesTo set (remainder_plan_or instead a b c (end_by (traps Zero line)) (go_on (next control))) at (divides a (at (Reg c)) (floor_mod (at (Reg b)) (at (Reg c))) line control (memory_of at))
remainder_plan-comes instead set a b c line control at rules fits =
    let x = at (Reg b) in
    let y = at (Reg c) in
    let v = floor_mod x y in
    divides-comes instead set a b c line v control at (λ negative turned. remainder_acts a negative turned (go_on (next control))) rules fits
    (λ apart at' r q h below. remainder-comes set a (next control) (memory_of at) (bound_some set rules) (is_negative y) (signed (is_negative y) x) v (unsigned_abs y) r q at' h
    below (divisor_fits set y (fits (Reg c))) (remainder_is x y r q apart below h.whole))

-- ---- one instruction
step_by : (shape : Shape) (instr : Instr) (control : Control) (at : Place → ℤ) → IsModuliSet shape.set → ByRecursion (IsSoundOperand shape) (operands_of instr) → AreInRange shape.set at
    → IsFit (step shape.set instr control (memory_of at)) → ComesTo shape.set (acts_of shape.set instr control) at (step shape.set instr control (memory_of at))
step_by shape Halt control at rules sound fits fit = (refl, tt)
step_by shape (Ldi a value) control at rules sound fits fit =
    put-comes shape.set (Reg a) value control at fits sound.1.0
step_by shape (Ld a p) control at rules sound fits fit =
    put-comes shape.set (Reg a) (at (Word p)) control at fits (fits (Word p))
step_by shape (St a p) control at rules sound fits fit =
    put-comes shape.set (Word p) (at (Reg a)) control at fits (fits (Reg a))
step_by shape (Ldx a b p q line) control at rules sound fits fit =
    let place = Word (p + unsigned_abs (at (Reg b))) in
    ComesTo-or_end shape.set (is_index q (at (Reg b))) (issues (micro.Copy (Reg a) place) control) (traps Index line) at _
    (λ e. put-comes shape.set (Reg a) (at place) control at fits (fits place))
step_by shape (Stx a b p q line) control at rules sound fits fit =
    let place = Word (p + unsigned_abs (at (Reg b))) in
    ComesTo-or_end shape.set (is_index q (at (Reg b))) (issues (micro.Copy place (Reg a)) control) (traps Index line) at _
    (λ e. put-comes shape.set place (at (Reg a)) control at fits (fits (Reg a)))
step_by shape (Mov a b) control at rules sound fits fit =
    put-comes shape.set (Reg a) (at (Reg b)) control at fits (fits (Reg b))
step_by shape (Add a b c) control at rules sound fits fit =
    computes-comes shape.set a (at (Reg b) +ℤ at (Reg c)) control at fits fit
step_by shape (Sub a b c) control at rules sound fits fit =
    computes-comes shape.set a (at (Reg b) -ℤ at (Reg c)) control at fits fit
step_by shape (Mul a b c) control at rules sound fits fit =
    computes-comes shape.set a (at (Reg b) *ℤ at (Reg c)) control at fits fit
step_by shape (Neg a b) control at rules sound fits fit =
    put-comes shape.set (Reg a) (neg_ℤ (at (Reg b))) control at fits (IsInRange-neg shape.set (at (Reg b)) (fits (Reg b)))
step_by shape (Mac a b c) control at rules sound fits fit =
    computes-comes shape.set a ((at (Reg b) *ℤ at (Reg c)) +ℤ at (Reg a)) control at fits fit
step_by shape (Div a b c line) control at rules sound fits fit = quotient_plan-comes None shape.set a b c line control at rules fits
step_by shape (Mod a b c line) control at rules sound fits fit = remainder_plan-comes None shape.set a b c line control at rules fits
step_by shape (Scl a b s) control at rules sound fits fit =
    let below : s < shape.set.info = sound.1.1.0 in
    let channel : s < length shape.set.moduli = omega (arith, info_below shape.set rules) in
    let m = slice_index shape.set.moduli s in
    let modulus : IsModulus m = All-get_or IsModulus shape.set.moduli s 0 channel rules.moduli in
    let two = modulus.at_least_two in
    let x = quotient (at (Reg b)) m in
    (refl, ((refl, refl), AreInRange-with shape.set at (Reg a) x fits (IsInRange-quotient shape.set (at (Reg b)) m (omega arith) (fits (Reg b))), tt))
step_by shape (Jmp p) control at rules sound fits fit = (refl, tt)
step_by shape (Blt a b p) control at rules sound fits fit = (refl, tt)
step_by shape (Beq a b p) control at rules sound fits fit = (refl, tt)
step_by shape (Chk a low high line) control at rules sound fits fit =
    ComesTo-or_end shape.set (lies_in low high (at (Reg a))) (go_on (next control)) (traps Range line) at (stands (next control) (memory_of at)) (λ e. (refl, tt))
step_by shape (In a low high line) control at rules sound fits fit =
    reads-comes shape.set a low high line control.input control at sound.1.0.0 sound.1.0.1 fits
step_by shape (Out a) control at rules sound fits fit = (refl, tt)
step_by shape (Call p line) control at rules sound fits fit =
    let on = with_places p ((control.counter + 1) ∷ control.places) control in
    ComesTo-or_end shape.set (nat_lt (length control.places) most_places) (go_on on) (traps Stack line) at (stands on (memory_of at)) (λ e. (refl, tt))
step_by shape (Ret line) control at rules sound fits fit = returns-comes shape.set line control.places control at
step_by shape (Trp k line) control at rules sound fits fit = (refl, tt)

pub step-comes : (shape : Shape) (instr : Instr) (control : Control) (at : Place → ℤ) → IsModuliSet shape.set → All (IsSoundOperand shape) (operands_of instr) → AreInRange shape.set at
    → IsFit (step shape.set instr control (memory_of at)) → ComesTo shape.set (acts_of shape.set instr control) at (step shape.set instr control (memory_of at))
step-comes shape instr control at rules sound fits fit =
    step_by shape instr control at rules (recursion_from_All (IsSoundOperand shape) (operands_of instr) sound) fits fit
