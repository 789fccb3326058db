use Rattle.redundant_decoder.proofs.VerdictLemmas.{same_nearest}
use Rattle.redundant_decoder.proofs.distance.nearest_is_the_only_one.Goals as goal

pub returns : goal.returns
returns c = same_nearest
