use Rattle.fault_run.proofs.ByChannel.{IsFaultRun-faulty}
use Rattle.fault_run.proofs.laws.fault_runs_go_channel_by_channel.Goals as goal

pub returns : goal.returns
returns c = λ decode erased set book lanes run sound. IsFaultRun-faulty decode book erased set run lanes sound
