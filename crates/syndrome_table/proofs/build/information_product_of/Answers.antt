use Rattle.std.proofs.Common.{◌≡◌, pos, ap, ◌∙◌, arith, to_z}
use Rattle.std.specs.Int.{w128}
use Rattle.std.proofs.lemmas.Int.{ints}
use Rattle.number_theory.specs.Coprime.{product}
use Rattle.moduli_sets.specs.Moduli.{set_of}
use Rattle.moduli_sets.specs.Set.{information_product}
use Rattle.mixed_radix.specs.Chosen.{entries_at}
use Rattle.mixed_radix.proofs.SignLemmas.{entries_at-range}
use Rattle.syndrome_table.proofs.CaseLemmas.{info_in}
use Rattle.syndrome_table.proofs.ReadingLemmas.{info_below}
use Rattle.syndrome_table.proofs.build.information_product_of.Goals as goal

pub product_of-requires : goal.product_of-requires
product_of-requires c = info_below (set_of c.args.set.now) _ c.rules.ensures.set c.info.ensures

pub returns : goal.returns
returns c =
    let set = set_of c.args.set.now in
    let within = info_in set c.rules.ensures.set in
    let value : c.product_of.result ≡ information_product set = c.product_of.ensures.value ∙ ap (λ w. product (entries_at w set.moduli)) c.info.ensures ∙ ap product (entries_at-range set.info set.moduli (omega arith)) in
    let fits = c.product_of.ensures.fits in
    let own : to_z w128 c.product_of.result ≡ pos c.product_of.result = omega (arith, ints) in
    own ∙ ap pos value
