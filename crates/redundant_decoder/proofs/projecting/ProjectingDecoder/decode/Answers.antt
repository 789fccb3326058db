use Rattle.std.proofs.Common.{◌≡◌, ◌≢◌, ◌<◌, None, ℕ, ℤ, length, to_z, of_z, inl, inr, sym, ◌∙◌, subst, arith, rules}
use Rattle.std.specs.Int.{w128}
use Rattle.std.specs.List.{remove}
use Rattle.std.proofs.lemmas.Bool.{cases_lt}
use Rattle.std.proofs.lemmas.Int.{to_z-of_z}
use borrow.Author.Count.{below_more}
use Rattle.moduli_sets.specs.Moduli.{set_of}
use Rattle.moduli_sets.specs.Set.{IsInRange, radius}
use Rattle.moduli_sets.specs.Vector.{vector_of}
use Rattle.mixed_radix.proofs.ChosenLemmas.{info_below}
use Rattle.redundant_decoder.specs.Verdict.{IsCorrection}
use Rattle.redundant_decoder.proofs.VerdictLemmas.{IsNearest-none_from_remove}
use Rattle.redundant_decoder.proofs.PlaceLemmas.{none_whole, product_of_others}
use Rattle.redundant_decoder.proofs.ProjectionLemmas.{AreBelow-without, IsVerdict-corrected, none_without}
use Rattle.redundant_decoder.proofs.projecting.ProjectingDecoder.decode.Goals as goal

pub integer_of-requires-clause-channels : goal.integer_of-requires-clause-channels
integer_of-requires-clause-channels c = AreBelow-without _ c.loop-i.i _ c.without.ensures

pub integer_of-requires-clause-product : goal.integer_of-requires-clause-product
integer_of-requires-clause-product c =
    let set = set_of c.args.self.now.set in
    let channel : c.loop-i.i < length set.moduli = omega (arith, info_below set c.rules.ensures.set) in
    c.args.self.now.products.others_are c.loop-i.i channel ∙ sym (product_of_others set.moduli c.without.result c.loop-i.i c.without.ensures)

pub returns-in-Some-integer_of : goal.returns-in-Some-integer_of
returns-in-Some-integer_of c =
    let set = set_of c.args.self.now.set in
    let x = c.in-Some-integer_of.x in
    let kept : to_z w128 (of_z w128 x) ≡ x = to_z-of_z w128 x (search rules) in
    let none = none_whole set c.args.v.now c.rules.ensures.set c.in_default.ensures.none in
    let channel : c.loop-i.i < length set.moduli = omega (arith, info_below set c.rules.ensures.set) in
    subst (λ y. IsCorrection (radius set) None set c.args.v.now y c.loop-i.i) (sym kept) (IsVerdict-corrected set c.without.result c.args.v.now x c.loop-i.i c.rules.ensures.set c.requires channel c.without.ensures none c.in-Some-integer_of.ensures.found)

pub loop-i-preserved : goal.loop-i-preserved
loop-i-preserved c =
    let set = set_of c.args.self.now.set in
    let here = none_without set c.without.result c.args.v.now c.loop-i.i c.requires c.without.ensures c.in_default-integer_of.ensures.none in
    below_more (λ j. (x : ℤ) → IsInRange set x → remove (vector_of set.moduli x) j ≢ remove c.args.v.now j) c.loop-i.i c.loop-i.invariant here

pub returns : goal.returns
returns c =
    let set = set_of c.args.self.now.set in
    let none = λ (x : ℤ) (i : ℕ) (in_x : IsInRange set x) (channel : i < length set.moduli). elim (cases_lt i set.info) as (λ h. remove (vector_of set.moduli x) i ≢ remove c.args.v.now i) [
      | inl below ↦ c.loop-i.invariant i (omega arith) x in_x
      | inr above ↦ c.in_default.ensures.none x i in_x above channel
    ] in
    IsNearest-none_from_remove set c.args.v.now c.rules.ensures.set c.rules.ensures.radius c.requires none
