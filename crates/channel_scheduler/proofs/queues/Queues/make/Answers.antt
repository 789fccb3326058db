use Rattle.std.proofs.Common.{replicate, ap, ◌∙◌, arith}
use Rattle.channel_scheduler.proofs.QueueLemmas.{queues-new}
use Rattle.channel_scheduler.proofs.queues.Queues.make.Goals as goal

pub returns : goal.returns
returns c = queues-new _ c.loop-i.backlogs.items c.args.channels c.in_ok-recent.ensures.items (c.loop-i.invariant ∙ ap (λ n. replicate n 0) (omega (arith, c.loop-i-test.false, c.loop-i.auto._i-end)))
