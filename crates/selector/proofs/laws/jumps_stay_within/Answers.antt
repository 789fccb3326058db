use Rattle.selector.proofs.StatementJumps.{jumps_stay_within}
use Rattle.selector.proofs.laws.jumps_stay_within.Goals as goal

pub returns : goal.returns
returns c = jumps_stay_within
