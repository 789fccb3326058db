-- The plans of scaling and division. Channels add, subtract and multiply, but can't compare; so the quotient is found by
-- doubling the divisor, and only the signs of what is shown direct it.
use Rattle.std.specs.Prelude.{ℕ, zero, suc, ◌==◌, ℤ, pos, negsuc, Bool, true, false, ◌&&◌, ◌||◌, slice_index, Option, Some, None, if◌then◌else◌}
use Rattle.number_theory.specs.Residue.{residue, quotient}
use Rattle.moduli_sets.specs.Set.{ModuliSet}
use Rattle.channel_alu.specs.declared.operation.Place.TheVariants.{Reg, Scratch}
use Rattle.channel_alu.specs.declared.operation.MicroOp.TheVariants.{Put, Copy, Add, Sub, Neg, Unscale}
use Rattle.machine_table.specs.Control.{is_negative, is_positive, is_zero}
use Rattle.micro_plan.specs.ActTree.{Acts, issue, ask}

-- ---- scaling by the modulus of a channel
abbrev pub scaling_acts : ModuliSet → ℕ → ℕ → ℕ → Acts → Acts
scaling_acts set a b channel rest =
    let m = slice_index set.moduli channel in
    ask (Reg b) (λ x. issue (Unscale (Reg a) (Reg b) channel (residue x m) (residue (quotient x m) m)) rest)

-- ---- division: s0 is the dividend, s1 the divisor, both at first R(b) and R(c) with a sign that makes the divisor positive
-- Each loop is left at its 128th doing, whatever is shown: where no answer is faulty none comes that far
-- (`no_division_is_cut`).
abbrev pub most_doings : ℕ
most_doings = 128

-- A doing of a loop after which k are left. To say that none comes as far as the last, other acts are put in its place.
abbrev pub doing_or : Option Acts → ℕ → Acts → Acts
doing_or None k doing = doing
doing_or (Some other) zero doing = other
doing_or (Some other) (suc k) doing = doing

-- s2 is s1 doubled some times, s3 the power of 2, and s4 what is left of s0. While s2 goes into s4 they are doubled, and s4
-- is what then is left; k doings are left. Then s4 is the new s0, s3 is counted in s5, and the rest follows.
abbrev pub doubling_acts : Option Acts → ℕ → Acts → Acts
doubling_acts instead zero rest = rest
doubling_acts instead (suc k) rest =
    doing_or instead k
    (issue (Sub (Scratch 6) (Scratch 4) (Scratch 2)) (ask (Scratch 6) (λ d.
    if is_negative d || k == 0 then
    issue (Copy (Scratch 0) (Scratch 4)) (issue (Add (Scratch 5) (Scratch 5) (Scratch 3)) rest)
    else
    issue (Add (Scratch 2) (Scratch 2) (Scratch 2)) (issue (Add (Scratch 3) (Scratch 3) (Scratch 3))
    (issue (Copy (Scratch 4) (Scratch 6)) (doubling_acts instead k rest))))))

-- while s1 goes into s0 it is taken off as often as doubling finds; n doings are left
abbrev pub subtracting_acts : Option Acts → ℕ → Acts → Acts
subtracting_acts instead zero finish = finish
subtracting_acts instead (suc n) finish =
    doing_or instead n
    (issue (Sub (Scratch 4) (Scratch 0) (Scratch 1)) (ask (Scratch 4) (λ d.
    if is_negative d || n == 0 then finish
    else issue (Copy (Scratch 2) (Scratch 1)) (issue (Put (Scratch 3) (pos 1))
    (doubling_acts instead most_doings (subtracting_acts instead n finish))))))

-- s5 counts how often s1 goes into s0, which keeps the remainder
abbrev pub counting_acts : Option Acts → Acts → Acts
counting_acts instead finish = issue (Put (Scratch 5) (pos 0)) (subtracting_acts instead most_doings finish)

-- both change their sign where the divisor is negative
abbrev pub sign_acts : Bool → ℕ → ℕ → Acts → Acts
sign_acts true b c rest = issue (Neg (Scratch 0) (Reg b)) (issue (Neg (Scratch 1) (Reg c)) rest)
sign_acts false b c rest = issue (Copy (Scratch 0) (Reg b)) (issue (Copy (Scratch 1) (Reg c)) rest)

-- The plan is turned where the quotient would be negative: then the dividend s0 is -1 - s0, which isn't negative. Where that
-- is s1 * n + r, the floor quotient is -1 - n, and it leaves s1 - r - 1.
abbrev pub is_turned : ℤ → ℤ → Bool
is_turned x y = (is_positive y && is_negative x) || (is_negative y && is_positive x)

abbrev pub turning_acts : Bool → Acts → Acts
turning_acts true rest = issue (Put (Scratch 4) (negsuc 0)) (issue (Sub (Scratch 0) (Scratch 4) (Scratch 0)) rest)
turning_acts false rest = rest

-- `zero_divisor` is what comes where the divisor is 0; what comes after the counting goes by whether the divisor is negative
-- and whether the plan was turned
abbrev pub division_acts : Option Acts → ℕ → ℕ → Acts → (Bool → Bool → Acts) → Acts
division_acts instead b c zero_divisor finish =
    ask (Reg b) (λ x. ask (Reg c) (λ y.
    if is_zero y then zero_divisor
    else sign_acts (is_negative y) b c (turning_acts (is_turned x y)
    (counting_acts instead (finish (is_negative y) (is_turned x y))))))

-- the quotient
abbrev pub quotient_acts : ℕ → Bool → Acts → Acts
quotient_acts a true rest = issue (Put (Scratch 4) (negsuc 0)) (issue (Sub (Reg a) (Scratch 4) (Scratch 5)) rest)
quotient_acts a false rest = issue (Copy (Reg a) (Scratch 5)) rest

-- the remainder, which has the sign of the divisor
abbrev pub signed_acts : ℕ → Bool → Acts → Acts
signed_acts a true rest = issue (Neg (Reg a) (Scratch 0)) rest
signed_acts a false rest = issue (Copy (Reg a) (Scratch 0)) rest

abbrev pub remainder_acts : ℕ → Bool → Bool → Acts → Acts
remainder_acts a negative true rest =
    issue (Sub (Scratch 1) (Scratch 1) (Scratch 0)) (issue (Put (Scratch 4) (pos 1))
    (issue (Sub (Scratch 0) (Scratch 1) (Scratch 4)) (signed_acts a negative rest)))
remainder_acts a negative false rest = signed_acts a negative rest

-- ---- the plan of an instruction: what comes where the divisor is 0, and what comes after it
abbrev pub Plan : Type 0
Plan = Acts → Acts → Acts

abbrev pub quotient_plan_or : Option Acts → ℕ → ℕ → ℕ → Plan
quotient_plan_or instead a b c zero_divisor rest =
    division_acts instead b c zero_divisor (λ negative turned. quotient_acts a turned rest)

abbrev pub remainder_plan_or : Option Acts → ℕ → ℕ → ℕ → Plan
remainder_plan_or instead a b c zero_divisor rest =
    division_acts instead b c zero_divisor (λ negative turned. remainder_acts a negative turned rest)

abbrev pub quotient_plan : ℕ → ℕ → ℕ → Plan
quotient_plan a b c = quotient_plan_or None a b c

abbrev pub remainder_plan : ℕ → ℕ → ℕ → Plan
remainder_plan a b c = remainder_plan_or None a b c

abbrev pub scaling_plan : ModuliSet → ℕ → ℕ → ℕ → Plan
scaling_plan set a b channel zero_divisor rest = scaling_acts set a b channel rest
