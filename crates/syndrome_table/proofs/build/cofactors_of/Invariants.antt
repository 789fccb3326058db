use Rattle.std.proofs.Common.{◌≡◌, ◌<◌, ℕ, pos, ◌*ℤ◌, length, slice_index, slice_index_or}
use Rattle.moduli_sets.specs.Moduli.{set_of}
use Rattle.moduli_sets.specs.Set.{information_product}
use Rattle.syndrome_table.proofs.build.cofactors_of.Given as goal

abbrev pub invariant-loop-i : goal.invariant-loop-i
invariant-loop-i l = (length l.cofactors ≡ 12) × ((j : ℕ) → j < l.i → slice_index_or l.cofactors j (pos 0) *ℤ pos (slice_index (set_of l.set).moduli j) ≡ pos (information_product (set_of l.set)))
