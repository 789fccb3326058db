use Rattle.std.proofs.Common.{◌≡◌, ◌+◌, ◌-ℤ◌, pos, slice_index, ap, ◌∙◌, arith, to_z, of_z}
use Rattle.std.specs.Int.{w128}
use Rattle.std.proofs.lemmas.Int.{ints}
use Rattle.number_theory.specs.Residue.{residue}
use Rattle.moduli_sets.specs.Moduli.{set_of}
use Rattle.mixed_radix.proofs.DigitLemmas.{length-residues}
use Rattle.syndrome_table.proofs.VerdictLemmas.{count_is}
use Rattle.syndrome_table.proofs.ReadingLemmas.{product_small}
use Rattle.syndrome_table.proofs.triple.difference.Goals as goal

pub at-requires : goal.at-requires
at-requires c =
    let set = set_of c.args.set.now in
    omega (arith, c.info.ensures, count_is set c.rules.ensures.set c.rules.ensures.radius, length-residues set.moduli c.args.v.now c.requires.residues, c.requires.place)

pub overflow_sub-from : goal.overflow_sub-from
overflow_sub-from c =
    let set = set_of c.args.set.now in
    let low = c.requires.window.low in
    let high = c.requires.window.high in
    omega (arith, ints, product_small set c.rules.ensures.set, c.from.ensures)

pub returns : goal.returns
returns c =
    let set = set_of c.args.set.now in
    let low = c.requires.window.low in
    let high = c.requires.window.high in
    let k = set.info + c.args.k in
    let z = pos (slice_index c.args.v.now k) -ℤ c.args.y in
    let channel : c.info.result + c.args.k ≡ k = omega (arith, c.info.ensures) in
    let at : c.at.result ≡ slice_index c.args.v.now k = c.at.ensures ∙ ap (slice_index c.args.v.now) channel in
    let less : to_z w128 (of_z w128 (to_z w128 (of_z w128 c.from.result) -ℤ to_z w128 (of_z w128 c.args.y))) ≡ z = omega (arith, ints, product_small set c.rules.ensures.set, c.from.ensures, at) in
    c.residue_of.ensures ∙ ap (λ d. residue d c.modulus.result) less ∙ ap (residue z) (c.modulus.ensures.value ∙ ap (slice_index set.moduli) channel)
