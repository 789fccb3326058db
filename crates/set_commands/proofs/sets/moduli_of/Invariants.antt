use Rattle.std.proofs.Common.{◌≡◌, take}
use Rattle.moduli_sets.specs.Moduli.{set_of}
use Rattle.set_commands.proofs.sets.moduli_of.Given as goal

-- the moduli so far
abbrev pub invariant-loop-i : goal.invariant-loop-i
invariant-loop-i l = l.moduli ≡ take l.i (set_of l.set).moduli
