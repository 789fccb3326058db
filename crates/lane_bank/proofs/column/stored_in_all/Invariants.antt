use Rattle.std.proofs.Common.{◌≡◌, take}
use Rattle.lane_bank.specs.Bank.{stored_in}
use Rattle.lane_bank.proofs.column.stored_in_all.Given as goal

-- the residues of the lanes so far
abbrev pub invariant-loop-i : goal.invariant-loop-i
invariant-loop-i g l = l.column ≡ stored_in l.place (take l.i (g.B.Bank.lanes_of l.bank))
