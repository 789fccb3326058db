use Rattle.std.proofs.Common.{◌≡◌, ◌*◌, ◌%◌, ◌<◌, length, take, get_or, sym, ap, subst, ◌∙◌, arith}
use Rattle.std.proofs.Math.Nat.{mod-lt}
use Rattle.number_theory.specs.Coprime.{product}
use Rattle.moduli_sets.specs.Moduli.{set_of}
use Rattle.syndrome_table.proofs.CaseLemmas.{info_in}
use Rattle.syndrome_table.proofs.BuildLemmas.{product_more, inverse_more}
use Rattle.syndrome_table.proofs.stride.inverse_of_product.Goals as goal

pub loop-j-preserved : goal.loop-j-preserved
loop-j-preserved c =
    let set = set_of c.args.set.now in
    let ms = set.moduli in
    let j = c.loop-j.j in
    let x = c.loop-j.inverse in
    let y = c.inverse.result in
    let r = c.modulus-modulus.result in
    let some : 1 < r = omega (arith, c.modulus-modulus.ensures.modulus.at_least_two) in
    let more : 0 < r = omega arith in
    let j_in : j < length ms = omega (arith, c.loop-j-test.true, c.info-info.ensures, info_in set c.rules.ensures.set) in
    let second : (get_or ms j 0 * y) % r ≡ 1 = subst (λ m. (get_or ms j 0 * y) % m ≡ 1) (sym c.modulus-modulus.ensures.value) c.inverse.ensures.inverse.leaves_one in
    (mod-lt (x * y) more, ap (λ n. (n * ((x * y) % r)) % r) (product_more ms j j_in) ∙ inverse_more (product (take j ms)) (get_or ms j 0) x y r some c.loop-j.invariant.1 second)
