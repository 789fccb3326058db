use Rattle.resolved_tree.proofs.SamePrograms.{means_the_same}
use Rattle.resolved_tree.proofs.laws.resolved_means_the_same.Goals as goal

pub returns : goal.returns
returns c = means_the_same
