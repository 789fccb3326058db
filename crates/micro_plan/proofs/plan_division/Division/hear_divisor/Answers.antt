use Rattle.std.proofs.Common.{arith, refl, ◌∙◌, ◌≡◌, ap, sym, true, false, to_z, of_z}
use Rattle.std.specs.Int.{w128}
use Rattle.std.proofs.lemmas.Int.{to_z-of_z}
use Rattle.machine_table.specs.Control.{is_negative, is_zero}
use Rattle.micro_plan.specs.declared.plan_division.Step.TheVariants.{SignDivisor}
use Rattle.micro_plan.specs.declared.plan_division.Question.TheVariants.{Divisor}
use Rattle.micro_plan.specs.Division.{is_turned}
use Rattle.micro_plan.specs.Stages.{question_left}
use Rattle.micro_plan.proofs.PlanSteps.{issue_proceeds, signs_told, signed-possible, signs_proceed, zero_proceeds}
use Rattle.micro_plan.proofs.plan_division.Division.hear_divisor.Goals as goal

pub returns-then-is_zero : goal.returns-then-is_zero
returns-then-is_zero c =
    let y = c.args.divisor in
    let none : is_zero y ≡ true = ap is_zero (sym (to_z-of_z w128 y c.ranges.divisor)) ∙ sym c.is_zero.ensures ∙ c.if-is_zero.true in
    zero_proceeds c.args.self.now _ c.args.dividend y none refl

pub returns : goal.returns
returns c =
    let x = c.args.dividend in
    let y = c.args.divisor in
    let x_is = to_z-of_z w128 x c.ranges.dividend in
    let y_is = to_z-of_z w128 y c.ranges.divisor in
    let some : is_zero y ≡ false = ap is_zero (sym y_is) ∙ sym c.is_zero.ensures ∙ c.if-is_zero.false in
    let negative : c.is_negative-self.result ≡ is_negative y = c.is_negative-self.ensures ∙ ap is_negative y_is in
    let turned : c.is_turned-self.result ≡ is_turned x y = c.is_turned-self.ensures ∙ ap (λ z. is_turned z (to_z w128 (of_z w128 y))) x_is ∙ ap (is_turned x) y_is in
    let d = record c.args.self.now { negative = c.is_negative-self.result; turned = c.is_turned-self.result } in
    signs_proceed _ _ c.args.self.now _ _ _ _
    (issue_proceeds (question_left c.args.self.now (Divisor x) y) _ d _ _ _ SignDivisor _ c.signed-op.ensures c.issue.ensures.next c.issue.ensures.division
    (λ zero_divisor rest. signs_told c.args.self.now x y _ _ zero_divisor rest some negative turned) (omega arith)
    (λ words channels have. signed-possible _ _ _ words channels (omega arith) have.b))
