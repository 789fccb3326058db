use Rattle.std.proofs.Common.{◌≡◌, ◌/◌, ◌<◌, length, slice_set, slice_index, ap, ◌∙◌, arith}
use Rattle.std.specs.List.{remove}
use Rattle.std.proofs.lemmas.List.{get_or-set_same, get_or-set_other, length-set}
use borrow.Author.Count.{below_more}
use Rattle.number_theory.specs.Coprime.{product}
use Rattle.moduli_sets.specs.Moduli.{set_of}
use Rattle.redundant_decoder.proofs.PlaceLemmas.{product-remove_div, product_of_all}
use Rattle.redundant_decoder.proofs.ProjectionLemmas.{AreBelow-all}
use Rattle.redundant_decoder.proofs.projecting.other_products.Goals as goal

pub product_of-whole-requires : goal.product_of-whole-requires
product_of-whole-requires c = AreBelow-all _ _ c.all.ensures

pub loop-i-preserved : goal.loop-i-preserved
loop-i-preserved c =
    let ms = (set_of c.args.set.now).moduli in
    let i = c.loop-i.i in
    let products = c.loop-i.products in
    let factor = c.product_of-whole.result / c.from.result in
    let inside : i < length ms = omega arith in
    let room : i < length products = omega (arith, c.loop-i.invariant.size, c.rules.ensures.set.at_most_twelve) in
    let modulus : c.from.result ≡ slice_index ms i = c.from.ensures ∙ c.modulus.ensures.value in
    let whole : c.product_of-whole.result ≡ product ms =
    c.product_of-whole.ensures.value ∙ product_of_all ms c.all.result c.all.ensures in
    let positive : 0 < slice_index ms i = omega (arith, modulus, c.modulus.ensures.modulus.at_least_two, c.from.ensures) in
    let here : factor ≡ product (remove ms i) =
    ap (λ p. p / c.from.result) whole ∙ ap (λ m. product ms / m) modulus ∙ product-remove_div ms i inside positive in
    record {
      size = length-set products i factor ∙ c.loop-i.invariant.size;
      found = below_more (λ k. slice_index (slice_set products i factor) k ≡ product (remove ms k)) i
          (λ k below. get_or-set_other products i k factor 0 (λ (e : k ≡ i). omega arith) ∙ c.loop-i.invariant.found k below)
          (get_or-set_same products i factor 0 room ∙ here);
    }
