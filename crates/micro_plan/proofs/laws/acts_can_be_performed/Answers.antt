use Rattle.micro_plan.proofs.PerformLemmas.{instruction-can, run-can}
use Rattle.micro_plan.proofs.laws.acts_can_be_performed.Goals as goal

pub returns : goal.returns
returns c = record { instruction = instruction-can; run = run-can }
