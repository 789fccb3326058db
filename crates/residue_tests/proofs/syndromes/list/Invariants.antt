use Rattle.std.proofs.Common.{◌≡◌, take}
use Rattle.residue_tests.proofs.syndromes.list.Given as goal

abbrev pub invariant-loop-residue : goal.invariant-loop-residue
invariant-loop-residue l = l.vector ≡ take l.residue-index l.residues
