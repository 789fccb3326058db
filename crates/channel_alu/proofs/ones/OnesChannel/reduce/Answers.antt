use Rattle.std.proofs.Common.{◌≡◌, ◌≢◌, ◌<◌, ◌+◌, ◌^◌, sym, ap, ◌∙◌, arith}
use Rattle.channel_alu.specs.Modulus.{ones_modulus}
use Rattle.channel_alu.specs.ModulusLaws.{le-ones_modulus}
use Rattle.channel_alu.proofs.CarryLemmas.{end_around_twice, mod-all_set, mod-end_around}
use Rattle.channel_alu.proofs.ModulusForms.{pow-ones_bits}
use Rattle.channel_alu.proofs.ones.OnesChannel.reduce.Goals as goal

pub returns-then-reduced-modulus : goal.returns-then-reduced-modulus
returns-then-reduced-modulus g c =
    let p = 2 ^ c.bits-bits.result in
    let is : p ≡ ones_modulus g.row.K + 1 = ap (λ n. 2 ^ n) c.bits-bits.ensures ∙ pow-ones_bits g.row.K in
    let twice : end_around_twice c.args.x p ≡ ones_modulus g.row.K = cc in
    sym (mod-all_set c.args.x (ones_modulus g.row.K) p is twice)

pub returns-else-reduced-modulus : goal.returns-else-reduced-modulus
returns-else-reduced-modulus g c =
    let p = 2 ^ c.bits-bits.result in
    let is : p ≡ ones_modulus g.row.K + 1 = ap (λ n. 2 ^ n) c.bits-bits.ensures ∙ pow-ones_bits g.row.K in
    let twice : c.end_around-reduced.result ≡ end_around_twice c.args.x p = cc in
    let positive : 0 < ones_modulus g.row.K = omega (arith, le-ones_modulus g.row.K) in
    let fewer : end_around_twice c.args.x p ≢ ones_modulus g.row.K = λ e. c.if-reduced-modulus.false cc in
    twice ∙ sym (mod-end_around c.args.x (ones_modulus g.row.K) p is positive c.requires fewer)
