use Rattle.std.proofs.Common.{arith}
use Rattle.mixed_radix.proofs.GarnerLemmas.{mod-unscaled}
use Rattle.mixed_radix.proofs.digits.unscaled_residue.Goals as goal

pub returns : goal.returns
returns c = mod-unscaled c.args.a c.args.digit c.args.inverse c.args.modulus (omega arith)
