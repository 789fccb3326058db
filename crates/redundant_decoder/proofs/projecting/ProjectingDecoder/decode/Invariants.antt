use Rattle.std.proofs.Common.{◌≢◌, ℕ, ◌<◌, ℤ}
use Rattle.std.specs.List.{remove}
use Rattle.moduli_sets.specs.Moduli.{set_of}
use Rattle.moduli_sets.specs.Set.{IsInRange}
use Rattle.moduli_sets.specs.Vector.{vector_of}
use Rattle.redundant_decoder.proofs.projecting.ProjectingDecoder.decode.Given as goal

-- no integer in range has the residues but for one of the channels below i
abbrev pub invariant-loop-i : goal.invariant-loop-i
invariant-loop-i l = (j : ℕ) → j < l.i → (x : ℤ) → IsInRange (set_of l.self.set) x → remove (vector_of (set_of l.self.set).moduli x) j ≢ remove l.v j
