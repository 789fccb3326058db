use Rattle.number_theory.proofs.ResidueLemmas.{residue-mul}
use Rattle.number_theory.proofs.residues.residue_of_product.Goals as goal

pub returns : goal.returns
returns c = residue-mul
