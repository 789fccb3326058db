use Rattle.std.proofs.Common.{map, ap, ◌∙◌, arith}
use Rattle.std.proofs.lemmas.Grind.{common_steps}
use Rattle.std.proofs.lemmas.List.{take_all}
use Rattle.number_theory.specs.Residue.{residue}
use Rattle.channel_lane.proofs.lane.residues_of.Goals as goal

pub loop-x-preserved : goal.loop-x-preserved
loop-x-preserved c = grind (arith, common_steps)

pub returns : goal.returns
returns c =
    c.loop-x.invariant ∙ ap (map (λ x. residue x c.args.modulus)) (take_all c.loop-x.x-index c.args.integers.now c.loop-x-test.false)
