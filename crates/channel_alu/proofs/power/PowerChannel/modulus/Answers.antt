use Rattle.std.proofs.Common.{arith}
use Rattle.std.proofs.lemmas.Bool.Decides.{nat_tests}
use Rattle.std.proofs.lemmas.Nat.{one_shl}
use Rattle.channel_alu.specs.ModulusLaws.{le-power_modulus}
use Rattle.channel_alu.proofs.ModulusForms.{pow-power_bits}
use Rattle.channel_alu.proofs.power.PowerChannel.modulus.Goals as goal

pub returns-clause-at_least_two : goal.returns-clause-at_least_two
returns-clause-at_least_two g c =
    grind (arith, nat_tests, one_shl c.bits.result 32, pow-power_bits, le-power_modulus)
