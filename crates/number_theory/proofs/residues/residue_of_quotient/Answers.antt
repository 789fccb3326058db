use Rattle.number_theory.proofs.QuotientLemmas.{residue-quotient, residue-quotient_coprime}
use Rattle.number_theory.proofs.residues.residue_of_quotient.Goals as goal

pub returns : goal.returns
returns c = record { inverse = residue-quotient; coprime = residue-quotient_coprime }
