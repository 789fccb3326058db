use Rattle.std.proofs.Common.{arith, refl}
use Rattle.micro_plan.specs.declared.plan_division.Step.TheVariants.{StartPower}
use Rattle.micro_plan.specs.Stages.{step_left}
use Rattle.micro_plan.proofs.PlanSteps.{power_left, issue_proceeds, show_proceeds, sign_turned, signed-possible}
use Rattle.micro_plan.proofs.plan_division.Division.perform.Goals as goal

pub returns-in-ShowDividend : goal.returns-in-ShowDividend
returns-in-ShowDividend c =
    rw c.in-ShowDividend.is (show_proceeds _ _ _ _ _ _ _ c.show.ensures.next c.show.ensures.division (λ zero_divisor rest. refl) (omega arith) (λ words have. have.b))

pub returns-then-self : goal.returns-then-self
returns-then-self c =
    rw c.in-SignDivisor.is (issue_proceeds _ _ _ _ _ _ _ _ c.signed-op.ensures c.issue.ensures.next c.issue.ensures.division
    (λ zero_divisor rest. sign_turned _ _ _ _ _ _ c.if-self.true) (omega arith)
    (λ words channels have. signed-possible _ _ _ words channels (omega arith) have.c))

pub returns-else-self : goal.returns-else-self
returns-else-self c =
    rw c.in-SignDivisor.is (issue_proceeds _ _ _ _ _ _ _ _ c.signed-op.ensures c.issue-else-self.ensures.next c.issue-else-self.ensures.division
    (λ zero_divisor rest. sign_turned _ _ _ _ _ _ c.if-self.false) (omega arith)
    (λ words channels have. signed-possible _ _ _ words channels (omega arith) have.c))

pub returns-in-PutMinusOne : goal.returns-in-PutMinusOne
returns-in-PutMinusOne c =
    rw c.in-PutMinusOne.is (issue_proceeds _ _ _ _ _ _ _ _ c.put.ensures c.issue-in-PutMinusOne.ensures.next c.issue-in-PutMinusOne.ensures.division
    (λ zero_divisor rest. refl) (omega arith) (λ words channels have. (omega arith, refl)))

pub returns-in-TurnDividend : goal.returns-in-TurnDividend
returns-in-TurnDividend c =
    rw c.in-TurnDividend.is (issue_proceeds _ _ _ _ _ _ _ _ c.sub.ensures c.issue-in-TurnDividend.ensures.next c.issue-in-TurnDividend.ensures.division
    (λ zero_divisor rest. refl) (omega arith) (λ words channels have. ((omega arith, omega arith, omega arith), refl)))

pub returns-in-ClearCount : goal.returns-in-ClearCount
returns-in-ClearCount c =
    rw c.in-ClearCount.is (issue_proceeds _ _ _ _ _ _ _ _ c.put-in-ClearCount.ensures c.issue-in-ClearCount.ensures.next c.issue-in-ClearCount.ensures.division
    (λ zero_divisor rest. refl) (omega arith) (λ words channels have. (omega arith, refl)))

pub returns-in-ShowRest : goal.returns-in-ShowRest
returns-in-ShowRest c =
    rw c.in-ShowRest.is (show_proceeds _ _ _ _ _ _ _ c.show-in-ShowRest.ensures.next c.show-in-ShowRest.ensures.division (λ zero_divisor rest. refl) (omega arith) (λ words have. omega arith))

pub returns-in-StartPower : goal.returns-in-StartPower
returns-in-StartPower c =
    rw c.in-StartPower.is (issue_proceeds (step_left c.args.self.now (StartPower c.in-StartPower.n)) _ _ _ _ _ _ _ c.put-in-StartPower.ensures c.issue-in-StartPower.ensures.next c.issue-in-StartPower.ensures.division
    (λ zero_divisor rest. power_left _ _) (omega arith) (λ words channels have. (omega arith, refl)))
