use Rattle.machine_table.specs.Control.{control_at_start}
use Rattle.channel_lane.specs.Meaning.{integers_at_start}
use Rattle.micro_plan.proofs.ToldRuns.{run-comes, AreInRange-start}
use Rattle.micro_plan.proofs.laws.runs_follow_the_integer_machine.Goals as goal

pub returns : goal.returns
returns c = record {
  come = λ set code words n control at rules sound fits fit. (run-comes set code words n rules sound control at fits fit).0;
  stay = λ set code words n control at rules sound fits fit. (run-comes set code words n rules sound control at fits fit).1;
  start = λ set code words sound. AreInRange-start set words sound.in_range;
  come_from_start = λ set code words input n rules sound fit. (run-comes set code words n rules sound (control_at_start input) (integers_at_start words) (AreInRange-start set words sound.in_range) fit).0;
  stay_from_start = λ set code words input n rules sound fit. (run-comes set code words n rules sound (control_at_start input) (integers_at_start words) (AreInRange-start set words sound.in_range) fit).1;
}
