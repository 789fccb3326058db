use Rattle.micro_plan.proofs.PlanEnds.{plan-ends}
use Rattle.micro_plan.proofs.plan_laws.plans_end.Goals as goal

pub returns-clause-within : goal.returns-clause-within
returns-clause-within c = plan-ends
