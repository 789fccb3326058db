use Rattle.number_theory.proofs.ResidueLemmas.{residue-below, residue-residue}
use Rattle.number_theory.proofs.residues.residue_of_residue.Goals as goal

pub returns : goal.returns
returns c = record { below = residue-below; same = residue-residue }
