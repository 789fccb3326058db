-- Plans end, whatever is told.
use Rattle.std.proofs.Common.{ℕ, zero, suc, ◌+◌, ◌*◌, ◌≤◌, ◌==◌, ◌||◌, Bool, true, false, cond, sym, subst, arith, ℤ, None}
use Rattle.moduli_sets.specs.Set.{ModuliSet}
use Rattle.channel_alu.specs.declared.operation.Place.{Place}
use Rattle.channel_alu.specs.declared.operation.MicroOp.{MicroOp}
use Rattle.machine_table.specs.declared.instr.Instr.{Instr}
use Rattle.machine_table.specs.declared.instr.Instr.TheVariants as instr
use Rattle.machine_table.specs.Control.{is_negative, is_zero}
use Rattle.micro_plan.specs.ActTree.{Acts, issue, ask, print, go_on, end_by}
use Rattle.micro_plan.specs.Division.{doubling_acts, subtracting_acts, counting_acts, sign_acts, turning_acts, is_turned, division_acts, quotient_acts, remainder_acts, signed_acts, scaling_acts}
use Rattle.micro_plan.specs.Plans.{EndsWithin, most_operations, plan_of}
use Rattle.micro_plan.proofs.PlanSteps.{or_true}

-- ---- in general
pub ends_more : (acts : Acts) (n m : ℕ) → n ≤ m → EndsWithin n acts → EndsWithin m acts
ends_more (issue op acts) zero m le h = absurd h
ends_more (issue op acts) (suc n) zero le h = absurd (omega arith)
ends_more (issue op acts) (suc n) (suc m) le h = ends_more acts n m (omega arith) h
ends_more (ask place acts) zero m le h = absurd h
ends_more (ask place acts) (suc n) zero le h = absurd (omega arith)
ends_more (ask place acts) (suc n) (suc m) le h = λ x. ends_more (acts x) n m (omega arith) (h x)
ends_more (print x acts) n m le h = ends_more acts n m le h
ends_more (go_on control) n m le h = tt
ends_more (end_by end) n m le h = tt

-- a record, so that acts are found from it
record Ends (n : ℕ) (acts : Acts) : Type 0 where
  within : EndsWithin n acts

more : (acts : Acts) (n m : ℕ) → n ≤ m → Ends n acts → Ends m acts
more acts n m le h = record { within = ends_more acts n m le h.within }

ends_issue : (op : MicroOp) (acts : Acts) (n m : ℕ) → n + 1 ≤ m → Ends n acts → Ends m (issue op acts)
ends_issue op acts n zero le h = absurd (omega arith)
ends_issue op acts n (suc m) le h = record { within = ends_more acts n m (omega arith) h.within }

ends_ask : (place : Place) (acts : ℤ → Acts) (n m : ℕ) → n + 1 ≤ m → ((x : ℤ) → Ends n (acts x)) → Ends m (ask place acts)
ends_ask place acts n zero le h = absurd (omega arith)
ends_ask place acts n (suc m) le h = record { within = λ x. ends_more (acts x) n m (omega arith) (h x).within }

ends_cond : (b : Bool) (acts other : Acts) (n : ℕ) → Ends n acts → Ends n other → Ends n (cond b acts other)
ends_cond true acts other n h k = h
ends_cond false acts other n h k = k

-- where a loop is left, whatever is told
ends_last : (x : ℤ) (acts other : Acts) (n : ℕ) → Ends n acts → Ends n (cond (is_negative x || 0 == 0) acts other)
ends_last x acts other n h = subst (λ b. Ends n (cond b acts other)) (sym (or_true (is_negative x))) h

-- ---- the loops
doubling-ends : (k r : ℕ) (rest : Acts) → Ends r rest → Ends (5 * k + (4 + r)) (doubling_acts None (suc k) rest)
doubling-ends zero r rest h =
    ends_issue _ _ (3 + r) _ (omega arith) (ends_ask _ _ (2 + r) _ (omega arith) (λ x.
    ends_last x _ _ _ (ends_issue _ _ (1 + r) _ (omega arith) (ends_issue _ _ r _ (omega arith) h))))
doubling-ends (suc k) r rest h =
    let again = doubling-ends k r rest h in
    let n = 5 * k + (4 + r) in
    ends_issue _ _ (4 + n) _ (omega arith) (ends_ask _ _ (3 + n) _ (omega arith) (λ x.
    ends_cond (is_negative x || suc k == 0) _ _ _
    (ends_issue _ _ (1 + r) _ (omega arith) (ends_issue _ _ r _ (omega arith) h))
    (ends_issue _ _ (2 + n) _ (omega arith) (ends_issue _ _ (1 + n) _ (omega arith) (ends_issue _ _ n _ (omega arith) again)))))

subtracting-ends : (n r : ℕ) (finish : Acts) → Ends r finish → Ends (643 * n + (2 + r)) (subtracting_acts None (suc n) finish)
subtracting-ends zero r finish h =
    ends_issue _ _ (1 + r) _ (omega arith) (ends_ask _ _ r _ (omega arith) (λ x. ends_last x _ _ _ h))
subtracting-ends (suc n) r finish h =
    let again = subtracting-ends n r finish h in
    let m = 643 * n + (2 + r) in
    ends_issue _ _ (642 + m) _ (omega arith) (ends_ask _ _ (641 + m) _ (omega arith) (λ x.
    ends_cond (is_negative x || suc n == 0) _ _ _
    (more finish r _ (omega arith) h)
    (ends_issue _ _ (640 + m) _ (omega arith) (ends_issue _ _ (639 + m) _ (omega arith)
    (more _ _ _ (omega arith) (doubling-ends 127 m (subtracting_acts None (suc n) finish) again))))))

counting-ends : (r : ℕ) (finish : Acts) → Ends r finish → Ends (81664 + r) (counting_acts None finish)
counting-ends r finish h = ends_issue _ _ (81663 + r) _ (omega arith) (more _ _ _ (omega arith) (subtracting-ends 127 r finish h))

-- ---- the plans
sign-ends : (negative : Bool) (b c n : ℕ) (rest : Acts) → Ends n rest → Ends (2 + n) (sign_acts negative b c rest)
sign-ends true b c n rest h = ends_issue _ _ (1 + n) _ (omega arith) (ends_issue _ _ n _ (omega arith) h)
sign-ends false b c n rest h = ends_issue _ _ (1 + n) _ (omega arith) (ends_issue _ _ n _ (omega arith) h)

turning-ends : (turned : Bool) (n : ℕ) (rest : Acts) → Ends n rest → Ends (2 + n) (turning_acts turned rest)
turning-ends true n rest h = ends_issue _ _ (1 + n) _ (omega arith) (ends_issue _ _ n _ (omega arith) h)
turning-ends false n rest h = more rest n _ (omega arith) h

quotient-ends : (a n : ℕ) (turned : Bool) (rest : Acts) → Ends n rest → Ends (4 + n) (quotient_acts a turned rest)
quotient-ends a n true rest h = ends_issue _ _ (1 + n) _ (omega arith) (ends_issue _ _ n _ (omega arith) h)
quotient-ends a n false rest h = ends_issue _ _ n _ (omega arith) h

signed-ends : (a n : ℕ) (negative : Bool) (rest : Acts) → Ends n rest → Ends (1 + n) (signed_acts a negative rest)
signed-ends a n true rest h = ends_issue _ _ n _ (omega arith) h
signed-ends a n false rest h = ends_issue _ _ n _ (omega arith) h

remainder-ends : (a n : ℕ) (negative turned : Bool) (rest : Acts) → Ends n rest → Ends (4 + n) (remainder_acts a negative turned rest)
remainder-ends a n negative true rest h =
    ends_issue _ _ (3 + n) _ (omega arith) (ends_issue _ _ (2 + n) _ (omega arith) (ends_issue _ _ (1 + n) _ (omega arith) (signed-ends a n negative rest h)))
remainder-ends a n negative false rest h = more _ (1 + n) _ (omega arith) (signed-ends a n negative rest h)

division-ends : (b c n : ℕ) (zero_divisor : Acts) (finish : Bool → Bool → Acts) → Ends n zero_divisor → ((negative turned : Bool) → Ends (4 + n) (finish negative turned))
    → Ends (most_operations + n) (division_acts None b c zero_divisor finish)
division-ends b c n zero_divisor finish h k =
    ends_ask _ _ (81673 + n) _ (omega arith) (λ x. ends_ask _ _ (81672 + n) _ (omega arith) (λ y.
    ends_cond (is_zero y) _ _ _ (more zero_divisor n _ (omega arith) h)
    (more _ _ _ (omega arith) (sign-ends (is_negative y) b c _ _ (turning-ends (is_turned x y) _ _ (counting-ends (4 + n) _ (k (is_negative y) (is_turned x y))))))))

scaling-ends : (set : ModuliSet) (a b s n : ℕ) (rest : Acts) → Ends n rest → Ends (most_operations + n) (scaling_acts set a b s rest)
scaling-ends set a b s n rest h = ends_ask _ _ (1 + n) _ (omega arith) (λ x. ends_issue _ _ n _ (omega arith) h)

pub plan-ends : (set : ModuliSet) (i : Instr) (zero_divisor rest : Acts) (n : ℕ) → EndsWithin n zero_divisor → EndsWithin n rest → EndsWithin (most_operations + n) (plan_of set i zero_divisor rest)
plan-ends set (instr.Div a b c line) zero_divisor rest n h k =
    (division-ends b c n zero_divisor (λ negative turned. quotient_acts a turned rest) (record { within = h }) (λ negative turned. quotient-ends a n turned rest (record { within = k }))).within
plan-ends set (instr.Mod a b c line) zero_divisor rest n h k =
    (division-ends b c n zero_divisor (λ negative turned. remainder_acts a negative turned rest) (record { within = h }) (λ negative turned. remainder-ends a n negative turned rest (record { within = k }))).within
plan-ends set (instr.Scl a b s) zero_divisor rest n h k = (scaling-ends set a b s n rest (record { within = k })).within
plan-ends set _ zero_divisor rest n h k = ends_more rest n _ (omega arith) k
