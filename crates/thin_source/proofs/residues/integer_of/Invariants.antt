use Rattle.std.proofs.Common.{◌≡◌, ℤ, neg_ℤ, ◌≤ℤ◌, ◌<ℤ◌}
use Rattle.moduli_sets.specs.Moduli.{set_of}
use Rattle.moduli_sets.specs.Vector.{vector_of}
use Rattle.thin_source.proofs.residues.integer_of.Given as goal

-- no integer tried so far has the vector
abbrev pub invariant-loop-x : goal.invariant-loop-x
invariant-loop-x l = record {
  from : neg_ℤ l.bound ≤ℤ l.x;
  tried : (y : ℤ) → neg_ℤ l.bound ≤ℤ y → y <ℤ l.x → l.vector ≡ vector_of (set_of l.set).moduli y → ⊥;
}
