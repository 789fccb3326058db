use Rattle.std.proofs.Common.{◌*◌, ◌≤◌, length}
use Rattle.moduli_sets.specs.Moduli.{set_of}
use Rattle.syndrome_table.specs.Filling.{IsFilled}
use Rattle.syndrome_table.proofs.pass.Pass.add_first.Given as goal

abbrev pub invariant-loop-i : goal.invariant-loop-i
invariant-loop-i l = IsFilled (set_of l.self.set) l.self.cofactors l.table.items l.first (2 * l.i) × (l.from ≤ length l.table.items)
