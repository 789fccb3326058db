use Rattle.std.proofs.Common.{◌≡◌, ◌+◌, ◌++◌, map, take, drop}
use Rattle.channel_scheduler.proofs.queues.one_more_in_all.Given as goal

-- the backlogs so far are one more, and the others are as they were
abbrev pub invariant-loop-i : goal.invariant-loop-i
invariant-loop-i l = l.backlogs.items ≡ map (λ backlog. backlog + 1) (take l.i l.fn.backlogs.items) ++ drop l.i l.fn.backlogs.items
