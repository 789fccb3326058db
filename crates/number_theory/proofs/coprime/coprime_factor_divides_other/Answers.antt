use Rattle.number_theory.proofs.CoprimeLemmas.{dvd_other_factor}
use Rattle.number_theory.proofs.coprime.coprime_factor_divides_other.Goals as goal

pub returns : goal.returns
returns c = dvd_other_factor
