use Rattle.number_theory.proofs.RemainderLemmas.{number_of_residues, same_number_of_residues}
use Rattle.number_theory.proofs.coprime.one_number_has_the_residues.Goals as goal

pub returns : goal.returns
returns c = record { exists = number_of_residues; only = same_number_of_residues }
