use Rattle.fault_run.proofs.Tellers.{TellsEach-nearest, TellsNoOther-nearest}
use Rattle.fault_run.proofs.laws.decoders_tell.Goals as goal

pub returns-clause-each : goal.returns-clause-each
returns-clause-each c = TellsEach-nearest

pub returns-clause-no_other : goal.returns-clause-no_other
returns-clause-no_other c = TellsNoOther-nearest
