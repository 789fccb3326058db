use Rattle.std.proofs.Common.{◌*ℤ◌, pos, ◌<◌, slice_index, get_or, ap, ◌∙◌, arith, inl, inr, to_z, of_z}
use Rattle.std.specs.Int.{w128}
use Rattle.std.specs.Int.Signed.{quot_z}
use Rattle.std.proofs.Math.ListN.{set as put}
use Rattle.std.proofs.lemmas.Bool.{cases_eq}
use Rattle.std.proofs.lemmas.List.{get_or-set_same, get_or-set_other, length-set}
use Rattle.moduli_sets.specs.Moduli.{set_of}
use Rattle.syndrome_table.proofs.VerdictLemmas.{count_is}
use Rattle.syndrome_table.proofs.BuildLemmas.{quotient_is}
use Rattle.syndrome_table.proofs.build.cofactors_of.Goals as goal

pub loop-i-preserved : goal.loop-i-preserved
loop-i-preserved c = (
  length-set c.loop-i.cofactors c.loop-i.i _ ∙ c.loop-i.invariant.0,
  λ j h.
      let set = set_of c.args.set.now in
      let i = c.loop-i.i in
      let xs = c.loop-i.cofactors in
      let channel : i < set.info = omega (arith, c.loop-i-test.true, c.info-i-end.ensures) in
      elim (cases_eq j i) [
        | inr off ↦ ap (λ z. z *ℤ pos (slice_index set.moduli j)) (get_or-set_other xs i j _ (pos 0) off) ∙ c.loop-i.invariant.1 j (omega arith)
        | inl at ↦
            let modulus = ap pos c.modulus.ensures.value in
            let here = get_or-set_same xs i _ (pos 0) (omega (arith, c.loop-i.invariant.0, count_is set c.rules.ensures.set c.rules.ensures.radius, c.rules.ensures.set.at_most_twelve)) in
            ap (λ n. get_or (put xs i (to_z w128 (of_z w128 (quot_z (to_z w128 (of_z w128 c.args.product)) (to_z w128 (of_z w128 c.from.result)))))) n (pos 0) *ℤ pos (get_or set.moduli n 0)) at ∙ ap (λ z. z *ℤ pos (get_or set.moduli i 0)) here ∙ quotient_is set i c.args.product c.from.result c.rules.ensures.set channel c.requires (c.from.ensures ∙ modulus)
      ],
)
