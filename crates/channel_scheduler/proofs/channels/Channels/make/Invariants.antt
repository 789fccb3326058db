use Rattle.std.proofs.Common.{◌≡◌, replicate}
use Rattle.channel_scheduler.proofs.channels.Channels.make.Given as goal

-- nothing was answered
abbrev pub invariant-loop-i : goal.invariant-loop-i
invariant-loop-i g l = l.column ≡ replicate l._i 0
