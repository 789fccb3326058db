use Rattle.std.proofs.Common.{◌≡◌, ◌≤◌, take, eqb}
use Rattle.std.specs.Prelude.{count_by}
use Rattle.channel_scheduler.proofs.queues.eights.Given as goal

-- the backlogs of 8 so far
abbrev pub invariant-loop-i : goal.invariant-loop-i
invariant-loop-i l = record { full : l.full ≡ count_by (λ backlog. eqb backlog 8) (take l.i l.backlogs.items); few : l.full ≤ l.i }
