use Rattle.std.proofs.Common.{◌≡◌, map, take}
use Rattle.number_theory.specs.Residue.{residue}
use Rattle.channel_lane.proofs.lane.residues_of.Given as goal

-- the residues of the integers so far
abbrev pub invariant-loop-x : goal.invariant-loop-x
invariant-loop-x l = l.residues.items ≡ map (λ x. residue x l.modulus) (take l.x-index l.integers)
