use Rattle.syndrome_table.proofs.CaseLemmas.{one_case}
use Rattle.syndrome_table.proofs.laws.syndromes_tell_apart.Goals as goal

pub returns : goal.returns
returns c = one_case
