use Rattle.std.proofs.Common.{◌≡◌, ◌+◌, ◌<◌, ◌≤◌, ◌^◌, to_z, of_z, pos, ◌-ℤ◌, sym, subst, arith}
use Rattle.std.specs.Int.{w128}
use Rattle.std.proofs.lemmas.Int.{ints}
use Rattle.moduli_sets.specs.Moduli.{set_of}
use Rattle.moduli_sets.specs.Set.{range_bound}
use Rattle.mixed_radix.specs.Chosen.{entries_at}
use Rattle.redundant_decoder.specs.Projection.{IsIntegerOf}
use Rattle.redundant_decoder.proofs.ProjectionLemmas.{product_fits, IsNumberOf-value, IsIntegerOf-number, IsIntegerOf-less_product, IsIntegerOf-none}
use Rattle.redundant_decoder.proofs.projecting.integer_of.Goals as goal

pub overflow_cast-y : goal.overflow_cast-y
overflow_cast-y c =
    let which = c.args.which.now in
    let number = IsNumberOf-value (entries_at which (set_of c.args.set.now).moduli) (entries_at which c.args.v.now) c.digits_of.result c.value_of-y.result c.digits_of.ensures.number c.value_of-y.ensures in
    omega (arith, ints, number.small, product_fits (set_of c.args.set.now) c.args.which.now 0 c.rules.ensures.set c.requires.choice c.requires.channels, c.requires.product)

pub overflow_cast-product : goal.overflow_cast-product
overflow_cast-product c =
    omega (arith, ints, product_fits (set_of c.args.set.now) c.args.which.now 0 c.rules.ensures.set c.requires.choice c.requires.channels, c.requires.product)

pub overflow_sub-product : goal.overflow_sub-product
overflow_sub-product c =
    let set = set_of c.args.set.now in
    let which = c.args.which.now in
    let y = c.value_of-y.result in
    let number = IsNumberOf-value (entries_at which set.moduli) (entries_at which c.args.v.now) c.digits_of.result y c.digits_of.ensures.number c.value_of-y.ensures in
    let small : y < c.args.moduli_product = omega (arith, number.small, c.requires.product) in
    let fits = product_fits set which 0 c.rules.ensures.set c.requires.choice c.requires.channels in
    omega (arith, ints, c.requires.product)

pub overflow_sub-result : goal.overflow_sub-result
overflow_sub-result c =
    let set = set_of c.args.set.now in
    let which = c.args.which.now in
    let y = c.value_of-y.result in
    let number = IsNumberOf-value (entries_at which set.moduli) (entries_at which c.args.v.now) c.digits_of.result y c.digits_of.ensures.number c.value_of-y.ensures in
    let small : y < c.args.moduli_product = omega (arith, number.small, c.requires.product) in
    let fits = product_fits set which 0 c.rules.ensures.set c.requires.choice c.requires.channels in
    omega (arith, ints, c.requires.product)

pub returns-then-y-bound-clause-found : goal.returns-then-y-bound-clause-found
returns-then-y-bound-clause-found c =
    let set = set_of c.args.set.now in
    let which = c.args.which.now in
    let y = c.value_of-y.result in
    let number = IsNumberOf-value (entries_at which set.moduli) (entries_at which c.args.v.now) c.digits_of.result y c.digits_of.ensures.number c.value_of-y.ensures in
    let fits = product_fits (set_of c.args.set.now) c.args.which.now 0 c.rules.ensures.set c.requires.choice c.requires.channels in
    let small : y < 2 ^ 127 = omega (arith, number.small, c.requires.product) in
    let natural : to_z w128 y ≡ pos y = omega (arith, ints) in
    let within : y ≤ range_bound set = omega (arith, ints, c.if-y-bound.true, c.bound-bound.ensures) in
    subst (IsIntegerOf set which c.args.v.now) (sym natural) (IsIntegerOf-number set which c.args.v.now y c.requires.channels number within)

pub returns-then-product-y-clause-found : goal.returns-then-product-y-clause-found
returns-then-product-y-clause-found c =
    let set = set_of c.args.set.now in
    let which = c.args.which.now in
    let y = c.value_of-y.result in
    let p = c.args.moduli_product in
    let number = IsNumberOf-value (entries_at which set.moduli) (entries_at which c.args.v.now) c.digits_of.result y c.digits_of.ensures.number c.value_of-y.ensures in
    let small : y < p = omega (arith, number.small, c.requires.product) in
    let fits = product_fits (set_of c.args.set.now) c.args.which.now 0 c.rules.ensures.set c.requires.choice c.requires.channels in
    let less : to_z w128 (of_z w128 (to_z w128 y -ℤ to_z w128 p)) ≡ pos y -ℤ pos p = omega (arith, ints) in
    let within : p ≤ y + range_bound set = omega (arith, ints, c.if-product-y.true, c.bound-bound.ensures) in
    subst (IsIntegerOf set which c.args.v.now) (sym less) (IsIntegerOf-less_product set which c.args.v.now y p c.rules.ensures.set c.requires.channels number c.requires.product within)

pub returns-else-product-y-clause-none : goal.returns-else-product-y-clause-none
returns-else-product-y-clause-none c =
    let set = set_of c.args.set.now in
    let which = c.args.which.now in
    let y = c.value_of-y.result in
    let p = c.args.moduli_product in
    let number = IsNumberOf-value (entries_at which set.moduli) (entries_at which c.args.v.now) c.digits_of.result y c.digits_of.ensures.number c.value_of-y.ensures in
    let small : y < p = omega (arith, number.small, c.requires.product) in
    let fits = product_fits (set_of c.args.set.now) c.args.which.now 0 c.rules.ensures.set c.requires.choice c.requires.channels in
    let above : range_bound set < y = omega (arith, ints, c.if-y-bound.false, c.bound-bound.ensures) in
    let far : y + range_bound set < p = omega (arith, ints, c.if-product-y.false, c.bound-bound.ensures) in
    IsIntegerOf-none set which c.args.v.now y p c.rules.ensures.set c.requires.choice c.requires.channels number c.requires.product above far
