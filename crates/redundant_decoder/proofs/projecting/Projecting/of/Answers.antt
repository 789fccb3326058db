use Rattle.std.proofs.Common.{◌∙◌}
use Rattle.moduli_sets.specs.Moduli.{set_of}
use Rattle.moduli_sets.proofs.SetLemmas.{IsModuliSet-of}
use Rattle.redundant_decoder.proofs.PlaceLemmas.{AreBelow-information, product_of_information}
use Rattle.redundant_decoder.proofs.projecting.Projecting.of.Goals as goal

pub product_of-requires : goal.product_of-requires
product_of-requires c =
    AreBelow-information (set_of c.args.set.now) c.info.result (IsModuliSet-of c.args.set.now) c.info.ensures

pub invariant_of-result : goal.invariant_of-result
invariant_of-result c =
    let set = set_of c.args.set.now in
    record {
      products = record {
        information_is = c.product_of.ensures.value ∙ product_of_information set c.info.result (IsModuliSet-of c.args.set.now) c.info.ensures;
        others_are = c.other_products.ensures;
      };
    }
