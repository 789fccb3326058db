use Rattle.object_bytes.proofs.ObjectLemmas.{loaded_spelled, spelled_loaded}
use Rattle.object_bytes.proofs.laws.spelled_and_loaded.Goals as goal

pub returns-clause-spelled : goal.returns-clause-spelled
returns-clause-spelled c = loaded_spelled

pub returns-clause-loaded : goal.returns-clause-loaded
returns-clause-loaded c = spelled_loaded
