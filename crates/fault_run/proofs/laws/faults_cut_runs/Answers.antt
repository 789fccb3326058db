use Rattle.fault_run.proofs.WholeRuns.{up_to_damage}
use Rattle.fault_run.proofs.laws.faults_cut_runs.Goals as goal

pub returns : goal.returns
returns c = λ decode set code words input book n stays tells. up_to_damage decode set code words input book n stays tells
