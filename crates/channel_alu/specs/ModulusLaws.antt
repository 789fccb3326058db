-- Each channel type has a modulus that fits 16 bits, whatever its parameter is. These lemmas stand in specs/ since the
-- laws of the types' impls cite them, and an impl may cite nothing of its own crate's proofs/.
use Rattle.std.specs.Prelude.{ℕ, ◌^◌, ◌≤◌}
use Rattle.std.proofs.Common.{arith}
use Rattle.std.proofs.lemmas.Bool.Decides.{nat_tests}
use Rattle.std.proofs.Math.Pow.{pow_mono}
use Rattle.channel_alu.specs.declared.any.AnyChannel.{AnyChannel}
use Rattle.channel_alu.specs.declared.any.AnyChannel.TheVariants.{Plain, Ones4, Power4, Plus4, Ones8, Power8, Plus8, Ones15, Power15, Plus15}
use Rattle.channel_alu.specs.Modulus.{plain_modulus, ones_modulus, power_modulus, plus_modulus, any_modulus}

-- powers of 2 at the ends of what a parameter may be
le-pow_1 : (k : ℕ) → 1 ≤ k → 2 ≤ 2 ^ k
le-pow_1 k h = pow_mono h

le-pow_2 : (k : ℕ) → 2 ≤ k → 4 ≤ 2 ^ k
le-pow_2 k h = pow_mono h

pow-le_15 : (k : ℕ) → k ≤ 15 → 2 ^ k ≤ 32768
pow-le_15 k h = pow_mono h

pow-le_16 : (k : ℕ) → k ≤ 16 → 2 ^ k ≤ 65536
pow-le_16 k h = pow_mono h

pub le-plain_modulus : (p : ℕ) → 2 ≤ plain_modulus p
le-plain_modulus p = grind (arith, nat_tests)

pub plain_modulus-le : (p : ℕ) → plain_modulus p ≤ 65535
plain_modulus-le p = grind (arith, nat_tests)

pub le-ones_modulus : (k : ℕ) → 2 ≤ ones_modulus k
le-ones_modulus k = grind (arith, nat_tests, le-pow_2)

pub ones_modulus-le : (k : ℕ) → ones_modulus k ≤ 65535
ones_modulus-le k = grind (arith, nat_tests, pow-le_16)

pub le-power_modulus : (k : ℕ) → 2 ≤ power_modulus k
le-power_modulus k = grind (arith, nat_tests, le-pow_1)

pub power_modulus-le : (k : ℕ) → power_modulus k ≤ 65535
power_modulus-le k = grind (arith, nat_tests, pow-le_15)

pub le-plus_modulus : (k : ℕ) → 2 ≤ plus_modulus k
le-plus_modulus k = grind (arith, nat_tests, le-pow_1)

pub plus_modulus-le : (k : ℕ) → plus_modulus k ≤ 65535
plus_modulus-le k = grind (arith, nat_tests, pow-le_15)

pub le-any_modulus : (channel : AnyChannel) → 2 ≤ any_modulus channel
le-any_modulus (Plain p) = le-plain_modulus p
le-any_modulus (Ones4 channel) = le-ones_modulus 4
le-any_modulus (Power4 channel) = le-power_modulus 4
le-any_modulus (Plus4 channel) = le-plus_modulus 4
le-any_modulus (Ones8 channel) = le-ones_modulus 8
le-any_modulus (Power8 channel) = le-power_modulus 8
le-any_modulus (Plus8 channel) = le-plus_modulus 8
le-any_modulus (Ones15 channel) = le-ones_modulus 15
le-any_modulus (Power15 channel) = le-power_modulus 15
le-any_modulus (Plus15 channel) = le-plus_modulus 15

pub any_modulus-le : (channel : AnyChannel) → any_modulus channel ≤ 65535
any_modulus-le (Plain p) = plain_modulus-le p
any_modulus-le (Ones4 channel) = ones_modulus-le 4
any_modulus-le (Power4 channel) = power_modulus-le 4
any_modulus-le (Plus4 channel) = plus_modulus-le 4
any_modulus-le (Ones8 channel) = ones_modulus-le 8
any_modulus-le (Power8 channel) = power_modulus-le 8
any_modulus-le (Plus8 channel) = plus_modulus-le 8
any_modulus-le (Ones15 channel) = ones_modulus-le 15
any_modulus-le (Power15 channel) = power_modulus-le 15
any_modulus-le (Plus15 channel) = plus_modulus-le 15
