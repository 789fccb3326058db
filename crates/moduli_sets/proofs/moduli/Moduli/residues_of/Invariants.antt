use Rattle.std.proofs.Common.{◌≡◌, take, map}
use Rattle.number_theory.specs.Residue.{residue}
use Rattle.moduli_sets.specs.Moduli.{set_of}
use Rattle.moduli_sets.proofs.moduli.Moduli.residues_of.Given as goal

-- the residues of the moduli so far
abbrev pub invariant-loop-i : goal.invariant-loop-i
invariant-loop-i l = l.vector ≡ map (residue l.x) (take l.i (set_of l.self).moduli)
