use Rattle.channel_scheduler.proofs.MomentLemmas.{moment-empty, moment-operation, moment-show}
use Rattle.channel_scheduler.proofs.laws.moments_of_runs.Goals as goal

pub returns-clause-empty : goal.returns-clause-empty
returns-clause-empty c = moment-empty

pub returns-clause-operation : goal.returns-clause-operation
returns-clause-operation c = moment-operation

pub returns-clause-show : goal.returns-clause-show
returns-clause-show c = moment-show
