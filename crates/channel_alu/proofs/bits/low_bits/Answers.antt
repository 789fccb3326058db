use Rattle.std.proofs.Common.{arith}
use Rattle.std.proofs.lemmas.Nat.{one_shl, and_mask}
use Rattle.channel_alu.proofs.bits.low_bits.Goals as goal

pub returns : goal.returns
returns c = grind (arith, one_shl c.args.bits 32, and_mask)
