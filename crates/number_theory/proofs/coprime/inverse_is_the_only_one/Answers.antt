use Rattle.number_theory.proofs.CoprimeLemmas.{IsCoprime-from_inverse, same_inverse, inverse_of-is}
use Rattle.number_theory.proofs.InverseLemmas.{inverse_of-exists}
use Rattle.number_theory.proofs.coprime.inverse_is_the_only_one.Goals as goal

pub returns : goal.returns
returns c = record {
  coprime = IsCoprime-from_inverse;
  only = same_inverse;
  exists = inverse_of-exists;
  found = inverse_of-is;
}
