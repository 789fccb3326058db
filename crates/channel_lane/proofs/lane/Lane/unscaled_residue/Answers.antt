use Rattle.std.proofs.Common.{◌≡◌, pos, subst, arith}
use Rattle.number_theory.specs.Residue.{residue}
use Rattle.channel_lane.specs.Lane.{LaneState, modulus_of, unscaled_value}
use Rattle.channel_lane.proofs.ResidueSteps.{unscale_same}
use Rattle.channel_lane.proofs.lane.Lane.unscaled_residue.Goals as goal

pub returns-else-s-self-clause-value : goal.returns-else-s-self-clause-value
returns-else-s-self-clause-value g c =
    let is_value = λ (lane : LaneState). c.unscale.result ≡ residue (unscaled_value lane (pos c.args.x) c.args.s c.args.take c.args.give) (modulus_of lane) in
    subst is_value c.self.view_is
    (unscale_same _ _ _ _ _ _ _ _ _ _ _ c.unscale.ensures c.inverse-inverse.ensures.value c.modulus-modulus.ensures.value c.self.invariant.modulus_is (omega arith) c.if-s-self.false)
