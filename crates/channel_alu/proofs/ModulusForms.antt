-- Each modulus by its number of bits.
use Rattle.std.specs.Prelude.{◌≡◌, ℕ, ◌+◌, ◌^◌}
use Rattle.std.proofs.Common.{arith}
use Rattle.std.proofs.lemmas.Bool.Decides.{nat_tests}
use Rattle.std.proofs.lemmas.Nat.{pow_pos}
use Rattle.channel_alu.specs.Modulus.{ones_modulus, power_modulus, plus_modulus, ones_bits, power_bits}

-- 2 to the power of the bits is one more than the modulus of `Ones<K>`
pub pow-ones_bits : (k : ℕ) → 2 ^ ones_bits k ≡ ones_modulus k + 1
pow-ones_bits k = grind (arith, nat_tests, pow_pos)

-- the modulus of `Power<K>`
pub pow-power_bits : (k : ℕ) → 2 ^ power_bits k ≡ power_modulus k
pow-power_bits k = grind (arith, nat_tests)

-- and one less than that of `Plus<K>`
pub pow-plus_bits : (k : ℕ) → 2 ^ power_bits k + 1 ≡ plus_modulus k
pow-plus_bits k = grind (arith, nat_tests)
