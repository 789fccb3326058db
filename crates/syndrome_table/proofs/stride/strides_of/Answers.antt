use Rattle.std.proofs.Common.{◌≡◌, ◌+◌, ◌*◌, ◌%◌, ◌<◌, pos, get_or, to_z, of_z, slice_index, sym, ap, subst, ◌∙◌, arith, inl, inr}
use Rattle.std.specs.Int.{w128}
use Rattle.std.proofs.Math.ListN.{set as put}
use Rattle.std.proofs.Math.Nat.{mod-lt}
use Rattle.std.proofs.lemmas.Bool.{cases_eq}
use Rattle.std.proofs.lemmas.List.{get_or-set_same, get_or-set_other, length-set}
use Rattle.number_theory.specs.Residue.{residue}
use Rattle.moduli_sets.specs.Moduli.{set_of}
use Rattle.moduli_sets.specs.Set.{information_product}
use Rattle.syndrome_table.specs.declared.stride.Stride.{Stride}
use Rattle.syndrome_table.specs.Entry.{cofactor}
use Rattle.syndrome_table.specs.Filling.{IsStride}
use Rattle.syndrome_table.proofs.VerdictLemmas.{count_is}
use Rattle.syndrome_table.proofs.FilledLemmas.{natural_cofactor}
use Rattle.syndrome_table.proofs.BuildLemmas.{cofactor_kept, inverse_less}
use Rattle.syndrome_table.proofs.stride.strides_of.Goals as goal

pub loop-i-preserved : goal.loop-i-preserved
loop-i-preserved c =
    let set = set_of c.args.set.now in
    let rules = c.rules.ensures.set in
    let i = c.loop-i.i in
    let xs = c.loop-i.strides in
    let channel : i < set.info = omega (arith, c.loop-i-test.true, c.info-info.ensures) in
    let natural = natural_cofactor set c.args.cofactors.now i rules c.requires channel in
    let p = cofactor set i in
    let kept : to_z w128 (of_z w128 (get_or c.args.cofactors.now i (pos 0))) ≡ pos p = cofactor_kept set c.args.cofactors.now i rules c.requires channel in
    let r = get_or set.moduli set.info 0 in
    let whole = c.inverse_of_product-inverse.ensures in
    let x = c.inverse_of_product-inverse.result in
    let modulus_0 : c.modulus-in-loop-i-3.result ≡ r = c.modulus-in-loop-i-3.ensures.value ∙ ap (slice_index set.moduli) c.info-info.ensures in
    let modulus_1 : c.modulus.result ≡ get_or set.moduli (set.info + 1) 0 = c.modulus.ensures.value ∙ ap (λ n. slice_index set.moduli (n + 1)) c.info-info.ensures in
    let modulus_2 : c.modulus-in-loop-i.result ≡ get_or set.moduli (set.info + 2) 0 = c.modulus-in-loop-i.ensures.value ∙ ap (λ n. slice_index set.moduli (n + 2)) c.info-info.ensures in
    let some : 1 < r = omega (arith, modulus_0, c.modulus-in-loop-i-3.ensures.modulus.at_least_two) in
    let more : 0 < r = omega arith in
    let m = c.modulus-in-loop-i-2.result in
    let product_is = ap (λ n. p * n) c.modulus-in-loop-i-2.ensures.value ∙ natural.cofactor in
    let inverse_is : (m * x) % c.modulus-in-loop-i-3.result ≡ (m * x) % r = ap (λ n. (m * x) % n) modulus_0 in
    let stride : Stride = record { second = c.residue_of.result; third = c.residue_of-in-loop-i.result; inverse = (m * x) % c.modulus-in-loop-i-3.result } in
    let made : IsStride set i stride = record {
      inverse = record {
        small = subst (λ n. n < r) (sym inverse_is) (mod-lt (m * x) more);
        leaves_one = ap (λ n. (p * n) % r) inverse_is ∙ inverse_less p m (information_product set) x r some product_is whole.leaves_one;
      };
      second = c.residue_of.ensures ∙ ap (λ z. residue z c.modulus.result) kept ∙ ap (λ n. p % n) modulus_1;
      third = c.residue_of-in-loop-i.ensures ∙ ap (λ z. residue z c.modulus-in-loop-i.result) kept ∙ ap (λ n. p % n) modulus_2;
    } in (
      length-set xs i stride ∙ c.loop-i.invariant.0,
      λ j d h. elim (cases_eq j i) [
        | inr off ↦ subst (IsStride set j) (sym (get_or-set_other xs i j stride d off)) (c.loop-i.invariant.1 j d (omega arith))
        | inl at ↦
            let here = get_or-set_same xs i stride d (omega (arith, c.loop-i.invariant.0, count_is set rules c.rules.ensures.radius, rules.at_most_twelve)) in
            subst (λ n. IsStride set n (get_or (put xs i stride) n d)) (sym at) (subst (IsStride set i) (sym here) made)
      ],
    )
