use Rattle.number_theory.proofs.CoprimeLemmas.{product-dvd}
use Rattle.number_theory.proofs.coprime.pairwise_coprime_product_divides.Goals as goal

pub returns : goal.returns
returns c = product-dvd
