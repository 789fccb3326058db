use Rattle.number_theory.proofs.ResidueLemmas.{residue-add}
use Rattle.number_theory.proofs.residues.residue_of_sum.Goals as goal

pub returns : goal.returns
returns c = residue-add
