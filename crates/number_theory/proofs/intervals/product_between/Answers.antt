use Rattle.number_theory.proofs.IntervalLemmas.{product_between}
use Rattle.number_theory.proofs.intervals.product_between.Goals as goal

pub returns : goal.returns
returns c = record {
  low = λ l1 h1 l2 h2 x y a b c d. (product_between l1 h1 l2 h2 x y a b c d).0;
  high = λ l1 h1 l2 h2 x y a b c d. (product_between l1 h1 l2 h2 x y a b c d).1;
}
