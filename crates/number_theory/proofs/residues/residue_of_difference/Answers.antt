use Rattle.number_theory.proofs.ResidueLemmas.{residue-sub}
use Rattle.number_theory.proofs.residues.residue_of_difference.Goals as goal

pub returns : goal.returns
returns c = residue-sub
