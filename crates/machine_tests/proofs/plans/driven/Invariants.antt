use Rattle.std.proofs.Common.{◌≡◌, is_some}
use Rattle.micro_plan.specs.Stages.{waits}
use Rattle.machine_tests.proofs.plans.driven.Given as goal

-- an integer is told exactly where the plan waits for one
abbrev pub invariant-operations : goal.invariant-operations
invariant-operations l = is_some l.told ≡ waits l.plan
