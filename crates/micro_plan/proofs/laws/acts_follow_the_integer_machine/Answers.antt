use Rattle.micro_plan.proofs.ToldInstructions.{step-comes}
use Rattle.micro_plan.proofs.laws.acts_follow_the_integer_machine.Goals as goal

pub returns : goal.returns
returns c = record {
  come = λ shape instr control at rules sound fits fit. (step-comes shape instr control at rules sound fits fit).0;
  stay = λ shape instr control at rules sound fits fit. (step-comes shape instr control at rules sound fits fit).1;
}
