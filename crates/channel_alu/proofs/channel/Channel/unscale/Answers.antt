use Rattle.std.proofs.Common.{pos, ◌-ℤ◌}
use Rattle.channel_alu.proofs.ResidueForms.{residue-times}
use Rattle.channel_alu.proofs.channel.Channel.unscale.Goals as goal

pub returns : goal.returns
returns g c =
    cc (residue-times (pos c.args.a -ℤ pos c.args.take) c.args.inverse (g.Self.Channel.modulus c.args.self.now) c.requires.inverse)
