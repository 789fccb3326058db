use Rattle.std.proofs.Common.{◌≡◌, take}
use Rattle.channel_scheduler.proofs.channels.Channels.column.Given as goal

-- the answers so far
abbrev pub invariant-loop-i : goal.invariant-loop-i
invariant-loop-i g l = l.column ≡ take l.i l.self.column
