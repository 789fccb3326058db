use Rattle.number_theory.proofs.CoprimeLemmas.{same_from_residues, same_from_residues_within}
use Rattle.number_theory.proofs.coprime.equal_residues_make_equal.Goals as goal

pub returns : goal.returns
returns c = record { ordered = same_from_residues; within_bound = same_from_residues_within }
