use Rattle.fault_run.proofs.ByChannel.{find}
use Rattle.fault_run.proofs.laws.first_bad_column.Goals as goal

pub returns : goal.returns
returns c = λ decode book lanes run. find decode book run lanes
