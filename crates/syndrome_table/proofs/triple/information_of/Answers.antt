use Rattle.std.proofs.Common.{◌≡◌, ◌+◌, ◌*◌, ◌-ℤ◌, ◌<◌, ◌≤◌, ◌^◌, pos, sym, subst, arith, to_z, of_z}
use Rattle.std.specs.Int.{w128}
use Rattle.std.proofs.lemmas.Int.{ints}
use Rattle.moduli_sets.specs.Moduli.{set_of}
use Rattle.moduli_sets.specs.Set.{information_product, range_bound}
use Rattle.syndrome_table.specs.Reading.{IsInformation}
use Rattle.syndrome_table.proofs.ReadingLemmas.{product_small, info_below, number_of_information, information_low, information_high}
use Rattle.syndrome_table.proofs.triple.information_of.Goals as goal

pub digits_of-requires-clause-channels : goal.digits_of-requires-clause-channels
digits_of-requires-clause-channels c = info_below (set_of c.args.set.now) _ c.rules.ensures.set c.info-which.ensures

pub value_of-number-requires-clause-channels : goal.value_of-number-requires-clause-channels
value_of-number-requires-clause-channels c = info_below (set_of c.args.set.now) _ c.rules.ensures.set c.info-which.ensures

pub overflow_cast-number : goal.overflow_cast-number
overflow_cast-number c =
    let set = set_of c.args.set.now in
    let number = number_of_information set c.info-which.result c.args.v.now c.digits_of.result c.value_of-number.result c.rules.ensures.set c.requires.residues c.info-which.ensures c.digits_of.ensures.number c.value_of-number.ensures in
    omega (arith, ints, number.small, product_small set c.rules.ensures.set)

pub returns-then-number-product : goal.returns-then-number-product
returns-then-number-product c =
    let set = set_of c.args.set.now in
    let n = c.value_of-number.result in
    let number = number_of_information set c.info-which.result c.args.v.now c.digits_of.result n c.rules.ensures.set c.requires.residues c.info-which.ensures c.digits_of.ensures.number c.value_of-number.ensures in
    let small : 2 * n < 2 ^ 127 = omega (arith, number.small, product_small set c.rules.ensures.set) in
    let fits = product_small set c.rules.ensures.set in
    let natural : to_z w128 n ≡ pos n = omega (arith, ints) in
    let below : n + range_bound set < information_product set = omega (arith, ints, c.if-number-product.true, c.bound.ensures, c.requires.product) in
    subst (IsInformation set c.args.v.now) (sym natural) (information_low set c.args.v.now n c.rules.ensures.set number below)

pub returns-else-number-product : goal.returns-else-number-product
returns-else-number-product c =
    let set = set_of c.args.set.now in
    let n = c.value_of-number.result in
    let number = number_of_information set c.info-which.result c.args.v.now c.digits_of.result n c.rules.ensures.set c.requires.residues c.info-which.ensures c.digits_of.ensures.number c.value_of-number.ensures in
    let small = number.small in
    let fits = product_small set c.rules.ensures.set in
    let less : to_z w128 (of_z w128 (to_z w128 n -ℤ to_z w128 (of_z w128 c.args.product))) ≡ pos n -ℤ pos (information_product set) = omega (arith, ints, c.requires.product) in
    let above : information_product set ≤ n + range_bound set = omega (arith, ints, c.if-number-product.false, c.bound.ensures, c.requires.product) in
    subst (IsInformation set c.args.v.now) (sym less) (information_high set c.args.v.now n c.rules.ensures.set number above)
