use Rattle.std.proofs.Common.{arith}
use Rattle.std.proofs.lemmas.Bool.Decides.{nat_tests}
use Rattle.std.proofs.lemmas.Nat.{one_shl}
use Rattle.channel_alu.specs.ModulusLaws.{le-ones_modulus}
use Rattle.channel_alu.proofs.ModulusForms.{pow-ones_bits}
use Rattle.channel_alu.proofs.ones.OnesChannel.modulus.Goals as goal

pub returns-clause-at_least_two : goal.returns-clause-at_least_two
returns-clause-at_least_two g c =
    grind (arith, nat_tests, one_shl c.bits.result 32, pow-ones_bits, le-ones_modulus)
