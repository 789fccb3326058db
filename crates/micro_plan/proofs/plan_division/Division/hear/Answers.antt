use Rattle.std.proofs.Common.{arith, rules, refl, ◌∙◌, ◌≡◌, ◌==◌, ◌||◌, ap, sym, subst, true, false, ℤ, to_z, of_z}
use Rattle.std.specs.Int.{w128}
use Rattle.std.specs.Int.RustNames.{FitsSigned}
use Rattle.std.proofs.lemmas.Int.{to_z-of_z}
use Rattle.machine_table.specs.Control.{is_negative}
use Rattle.micro_plan.specs.declared.plan.Course.TheVariants as course
use Rattle.micro_plan.specs.declared.plan_division.Question.TheVariants.{Dividend, Divisor, Rest}
use Rattle.micro_plan.specs.Stages.{Proceeds, finish, question_left, question_most, told, whole_division}
use Rattle.micro_plan.proofs.PlanSteps.{issue_proceeds, show_proceeds, proceeds_same, not_last, rest_last, rest_more}
use Rattle.micro_plan.proofs.plan_division.Division.hear.Goals as goal

pub returns-in-Dividend : goal.returns-in-Dividend
returns-in-Dividend c =
    let x = c.args.x in
    let d = c.args.self.now in
    rw c.in-Dividend.is (show_proceeds (question_left d Dividend x) _ _ _ _ _ _ c.show.ensures.next c.show.ensures.division
    (λ zero_divisor rest. ap (λ z. told z (whole_division d zero_divisor rest)) (sym (to_z-of_z w128 x c.ranges.x))) (omega arith) (λ words have. have.c))

pub returns-in-Divisor : goal.returns-in-Divisor
returns-in-Divisor c =
    let x = c.args.x in
    let y = c.in-Divisor.dividend in
    let d = c.args.self.now in
    let fits : FitsSigned w128 y = search rules in
    let result = c.hear_divisor.result in
    let new = c.hear_divisor.new.self in
    rw c.in-Divisor.is
    (subst (λ (z : ℤ). Proceeds (question_left d (Divisor y) z) (question_most (Divisor y)) (course.Division d) result (course.Division new)) (to_z-of_z w128 x c.ranges.x)
    (subst (λ (z : ℤ). Proceeds (question_left d (Divisor z) (to_z w128 (of_z w128 x))) (question_most (Divisor z)) (course.Division d) result (course.Division new)) (to_z-of_z w128 y fits) c.hear_divisor.ensures))

pub returns-then-is_last : goal.returns-then-is_last
returns-then-is_last c =
    let x = c.args.x in
    let n = c.in-Rest.n in
    let d = c.args.self.now in
    let last : (is_negative x || n == 0) ≡ true = ap (λ z. is_negative z || n == 0) (sym (to_z-of_z w128 x c.ranges.x)) ∙ sym c.is_last.ensures ∙ c.if-is_last.true in
    rw c.in-Rest.is (proceeds_same (λ zero_divisor rest. finish d rest) (question_left d (Rest n) x) _ _ d _ _ (λ zero_divisor rest. rest_last n x (finish d rest) last) (omega arith) c.finish.ensures)

pub returns-else-is_last : goal.returns-else-is_last
returns-else-is_last c =
    let x = c.args.x in
    let n = c.in-Rest.n in
    let d = c.args.self.now in
    let more : (is_negative x || n == 0) ≡ false = ap (λ z. is_negative z || n == 0) (sym (to_z-of_z w128 x c.ranges.x)) ∙ sym c.is_last.ensures ∙ c.if-is_last.false in
    let some = not_last n x more in
    rw c.in-Rest.is (issue_proceeds (question_left d (Rest n) x) _ _ _ _ _ _ _ c.copy.ensures c.issue.ensures.next c.issue.ensures.division
    (λ zero_divisor rest. rest_more n x (finish d rest) more) (omega (arith, some)) (λ words channels have. ((omega arith, omega arith), refl)))
