use Rattle.std.proofs.Common.{pos, ◌+ℤ◌, ◌-ℤ◌, ◌∙◌}
use Rattle.range_inference.proofs.Words.{around_ends, plus_one, minus_one}
use Rattle.range_inference.proofs.operators.remainders.Goals as goal

pub returns : goal.returns
returns c =
    c.around_zero.ensures
    ∙ around_ends _ _ (c.args.b.low +ℤ pos 1) (c.args.b.high -ℤ pos 1)
    (plus_one c.args.b.low c.requires.low_from c.requires.low_to) (minus_one c.args.b.high c.requires.high_from c.requires.high_to)
