use Rattle.std.proofs.Common.{◌≡◌, ◌≤◌, ◌+◌, ◌/◌, ◌%◌, ◌^◌, ap, ◌∙◌, arith}
use Rattle.std.proofs.lemmas.Nat.{pow_pos}
use Rattle.channel_alu.specs.Modulus.{plus_modulus}
use Rattle.channel_alu.proofs.CarryLemmas.{mod-carry_subtracted, mod-greater_carry, carry-le}
use Rattle.channel_alu.proofs.ModulusForms.{pow-plus_bits}
use Rattle.channel_alu.proofs.plus.PlusChannel.reduce.Goals as goal

pub overflow_sub-result-else-carry-low : goal.overflow_sub-result-else-carry-low
overflow_sub-result-else-carry-low g c = grind (arith, carry-le, pow_pos, pow-plus_bits)

pub returns-then-carry-low : goal.returns-then-carry-low
returns-then-carry-low g c =
    let p = 2 ^ c.bits-bits.result in
    let is : p + 1 ≡ plus_modulus g.row.K = ap (λ n. 2 ^ n + 1) c.bits-bits.ensures ∙ pow-plus_bits g.row.K in
    let less : c.args.x / p ≤ c.args.x % p = omega arith in
    cc (is, mod-carry_subtracted c.args.x p (pow_pos c.bits-bits.result) less)

pub returns-else-carry-low : goal.returns-else-carry-low
returns-else-carry-low g c = grind (arith, mod-greater_carry, pow_pos, pow-plus_bits)
