use Rattle.shown_run.proofs.NearestLemmas.{IsNearest-nearest}
use Rattle.shown_run.proofs.laws.nearest_is_nearest.Goals as goal

pub returns : goal.returns
returns c = IsNearest-nearest
