use Rattle.std.proofs.Common.{◌≡◌, ◌++◌, map, take, drop}
use Rattle.channel_lane.specs.Lane.{lane_after}
use Rattle.lane_bank.proofs.column.issue_to_all.Given as goal

-- the lanes so far have performed the operation, and the others are as they were
abbrev pub invariant-loop-i : goal.invariant-loop-i
invariant-loop-i g l =
    let old = g.B.Bank.lanes_of l.fn.bank in
    g.B.Bank.lanes_of l.bank ≡ map (lane_after l.faults l.op) (take l.i old) ++ drop l.i old
