use Rattle.std.proofs.Common.{◌≡◌, length, to_z, of_z, sym, ◌∙◌, subst, rules}
use Rattle.std.specs.Int.{w128}
use Rattle.std.proofs.lemmas.Int.{to_z-of_z}
use Rattle.moduli_sets.specs.Moduli.{set_of}
use Rattle.moduli_sets.specs.Vector.{vector_of}
use Rattle.redundant_decoder.specs.Projection.{AgreeFrom, IsFirstDifference, IsIntegerOf}
use Rattle.redundant_decoder.proofs.PlaceLemmas.{AreBelow-information, product_of_information, IsVerdict-by_information, IsCorrection-by_information, none_by_information, none_of_information}
use Rattle.redundant_decoder.proofs.projecting.Projecting.by_information.Goals as goal

pub integer_of-requires-clause-channels : goal.integer_of-requires-clause-channels
integer_of-requires-clause-channels c =
    AreBelow-information (set_of c.args.self.now.set) c.info.result c.rules.ensures.set c.info.ensures

pub integer_of-requires-clause-product : goal.integer_of-requires-clause-product
integer_of-requires-clause-product c =
    c.args.self.now.products.information_is ∙ sym (product_of_information (set_of c.args.self.now.set) c.info.result c.rules.ensures.set c.info.ensures)

pub returns-in_default-clause-none : goal.returns-in_default-clause-none
returns-in_default-clause-none c =
    none_of_information (set_of c.args.self.now.set) c.info.result c.args.v.now c.rules.ensures.set c.requires c.info.ensures c.in_default.ensures.none

pub returns-in-None-clause-found : goal.returns-in-None-clause-found
returns-in-None-clause-found c =
    let set = set_of c.args.self.now.set in
    let v = c.args.v.now in
    let z = to_z w128 (of_z w128 c.in-Some.x) in
    let kept : z ≡ c.in-Some.x = to_z-of_z w128 c.in-Some.x (search rules) in
    let integer = subst (IsIntegerOf set c.info.result v) (sym kept) c.in-Some.ensures.found in
    let agree = subst (λ n. AgreeFrom n (length set.moduli) v (vector_of set.moduli z)) c.info-2.ensures c.in-None.ensures.none in
    IsVerdict-by_information set c.info.result v z c.rules.ensures.set c.requires c.info.ensures integer agree

pub returns-in-None-first_difference-clause-found : goal.returns-in-None-first_difference-clause-found
returns-in-None-first_difference-clause-found c =
    let set = set_of c.args.self.now.set in
    let v = c.args.v.now in
    let z = to_z w128 (of_z w128 c.in-Some.x) in
    let i = c.in-Some-first_difference.i in
    let kept : z ≡ c.in-Some.x = to_z-of_z w128 c.in-Some.x (search rules) in
    let integer = subst (IsIntegerOf set c.info.result v) (sym kept) c.in-Some.ensures.found in
    let first = subst (λ n. IsFirstDifference n (length set.moduli) v (vector_of set.moduli z) i) c.info-2.ensures c.in-Some-first_difference.ensures.found in
    IsCorrection-by_information set c.info.result v z i c.rules.ensures.set c.requires c.info.ensures integer first c.in-None-first_difference.ensures.none

pub returns-in-Some-first_difference-2-clause-none : goal.returns-in-Some-first_difference-2-clause-none
returns-in-Some-first_difference-2-clause-none c =
    let set = set_of c.args.self.now.set in
    let v = c.args.v.now in
    let z = to_z w128 (of_z w128 c.in-Some.x) in
    let i = c.in-Some-first_difference.i in
    let kept : z ≡ c.in-Some.x = to_z-of_z w128 c.in-Some.x (search rules) in
    let integer = subst (IsIntegerOf set c.info.result v) (sym kept) c.in-Some.ensures.found in
    let first = subst (λ n. IsFirstDifference n (length set.moduli) v (vector_of set.moduli z) i) c.info-2.ensures c.in-Some-first_difference.ensures.found in
    none_by_information set c.info.result v z i c.in-Some-first_difference-2.field-0 c.rules.ensures.set c.requires c.info.ensures integer first c.in-Some-first_difference-2.ensures.found
