use Rattle.thin_source.proofs.PocketIntervals.{held_interval_sum, held_interval_difference}
use Rattle.thin_source.proofs.rules.joined_interval.Goals as goal

pub returns-in-Plus : goal.returns-in-Plus
returns-in-Plus c = rw c.in-Plus.is (held_interval_sum c.args.i c.args.j c.requires.left c.requires.right)

pub returns-in-Minus : goal.returns-in-Minus
returns-in-Minus c = rw c.in-Minus.is (held_interval_difference c.args.i c.args.j c.requires.left c.requires.right)
