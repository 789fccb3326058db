use Rattle.micro_plan.specs.declared.plan_division.Part.TheVariants.{Quotient, Remainder}
use Rattle.micro_plan.proofs.PlanSteps.{division-begins}
use Rattle.micro_plan.proofs.plan.Plan.of.Goals as goal

pub returns-in-Div-clause-left : goal.returns-in-Div-clause-left
returns-in-Div-clause-left c =
    let made = c.of.ensures in
    λ zero_divisor rest. rw c.in-Div.is (division-begins c.of.result Quotient _ _ _ zero_divisor rest made.part made.a made.b made.c made.stage)

pub returns-in-Mod-clause-left : goal.returns-in-Mod-clause-left
returns-in-Mod-clause-left c =
    let made = c.of-in-Mod.ensures in
    λ zero_divisor rest. rw c.in-Mod.is (division-begins c.of-in-Mod.result Remainder _ _ _ zero_divisor rest made.part made.a made.b made.c made.stage)
