use Rattle.channel_scheduler.specs.Channels.{RunsWhile, must_wait}
use Rattle.channel_scheduler.proofs.KeepingLemmas.{remaining}
use Rattle.channel_scheduler.proofs.channels.Channels.wait.Given as goal

-- the turns so far
abbrev pub invariant-loop-self : goal.invariant-loop-self
invariant-loop-self g l = RunsWhile must_wait l.faults l.fn.self l.self

abbrev pub decreases-loop-self : goal.decreases-loop-self
decreases-loop-self g l = remaining l.self
