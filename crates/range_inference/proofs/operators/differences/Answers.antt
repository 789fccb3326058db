use Rattle.range_inference.proofs.Words.{same_ends, word_difference}
use Rattle.range_inference.proofs.operators.differences.Goals as goal

pub returns : goal.returns
returns c =
    let l = c.requires.left in
    let r = c.requires.right in
    same_ends _ _ _ _ (word_difference c.args.a.low c.args.b.high l.low_from l.low_to r.high_from r.high_to)
    (word_difference c.args.a.high c.args.b.low l.high_from l.high_to r.low_from r.low_to)
