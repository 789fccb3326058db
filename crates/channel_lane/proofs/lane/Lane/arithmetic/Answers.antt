use Rattle.std.proofs.Common.{◌≡◌, sym, subst}
use Rattle.channel_lane.specs.Lane.{LaneState, modulus_of}
use Rattle.channel_lane.proofs.lane.Lane.arithmetic.Goals as goal

pub returns : goal.returns
returns g c =
    let has_modulus = λ (lane : LaneState). g.C.Channel.modulus c.self.inside.arithmetic ≡ modulus_of lane in
    subst has_modulus c.self.view_is (sym c.self.invariant.modulus_is)
