use Rattle.std.proofs.Common.{◌≡◌, ◌<◌, ℕ, length, slice_index_or}
use Rattle.moduli_sets.specs.Moduli.{set_of}
use Rattle.syndrome_table.specs.declared.stride.Stride.{Stride}
use Rattle.syndrome_table.specs.Filling.{IsStride}
use Rattle.syndrome_table.proofs.stride.strides_of.Given as goal

abbrev pub invariant-loop-i : goal.invariant-loop-i
invariant-loop-i l = (length l.strides ≡ 12) × ((j : ℕ) (d : Stride) → j < l.i → IsStride (set_of l.set) j (slice_index_or l.strides j d))
