use Rattle.number_theory.proofs.ResidueLemmas.{residue-neg}
use Rattle.number_theory.proofs.residues.residue_of_negation.Goals as goal

pub returns : goal.returns
returns c = residue-neg
