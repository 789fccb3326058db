use Rattle.std.proofs.Common.{◌≡◌, take}
use Rattle.residue_machine.proofs.repeating.copy_of.Given as goal

abbrev pub invariant-places : goal.invariant-places
invariant-places l = l.copy ≡ take l.i l.column
