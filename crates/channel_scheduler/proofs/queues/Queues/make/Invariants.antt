use Rattle.std.proofs.Common.{◌≡◌, replicate}
use Rattle.channel_scheduler.proofs.queues.Queues.make.Given as goal

-- nothing waits for the channels so far
abbrev pub invariant-loop-i : goal.invariant-loop-i
invariant-loop-i l = l.backlogs.items ≡ replicate l._i 0
