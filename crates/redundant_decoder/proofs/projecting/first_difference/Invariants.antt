use Rattle.moduli_sets.specs.Moduli.{set_of}
use Rattle.moduli_sets.specs.Vector.{vector_of}
use Rattle.redundant_decoder.specs.Projection.{AgreeFrom}
use Rattle.redundant_decoder.proofs.projecting.first_difference.Given as goal

-- below i the residues are those of x
abbrev pub invariant-loop-i : goal.invariant-loop-i
invariant-loop-i l = AgreeFrom l.low l.i l.v (vector_of (set_of l.set).moduli l.x)
