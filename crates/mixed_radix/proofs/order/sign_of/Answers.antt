use Rattle.std.proofs.Common.{◌≡◌, ◌<◌, ◌≤◌, length, subst, sym, ap, ◌∙◌, arith, rules}
use Rattle.std.specs.Int.{w128, cast_signed, cast_unsigned}
use Rattle.std.proofs.Math.IntN.{nat_abs}
use Rattle.std.proofs.lemmas.Int.{to_z-of_z}
use Rattle.number_theory.specs.Residue.{AreResidues}
use Rattle.std.specs.Ordering.{nat_cmp}
use Rattle.moduli_sets.specs.Moduli.{set_of}
use Rattle.moduli_sets.specs.Set.{range_bound}
use Rattle.mixed_radix.specs.Digits.{digits_value}
use Rattle.mixed_radix.specs.Chosen.{AreBelow, entries_at}
use Rattle.mixed_radix.proofs.ChosenLemmas.{AreBelow-range, info_below}
use Rattle.mixed_radix.proofs.DigitLemmas.{digits_value-digits}
use Rattle.mixed_radix.proofs.SignLemmas.{AreResidues-vector_of, HasInformation-from_number, Less-above_bound, int_cmp-within_bound}
use Rattle.mixed_radix.proofs.order.sign_of.Goals as goal

pub digits_of-requires-clause-residues : goal.digits_of-requires-clause-residues
digits_of-requires-clause-residues c =
    let set = set_of c.args.set.now in
    subst (AreResidues set.moduli) (sym c.requires.2) (AreResidues-vector_of set.moduli c.requires.0 c.rules.ensures.set.moduli)

pub digits_of-requires-clause-channels : goal.digits_of-requires-clause-channels
digits_of-requires-clause-channels c =
    let set = set_of c.args.set.now in
    subst (AreBelow (length set.moduli)) (sym c.info-which.ensures) (AreBelow-range (length set.moduli) set.info (omega (arith, info_below set c.rules.ensures.set)))

pub value_of-value-requires-clause-channels : goal.value_of-value-requires-clause-channels
value_of-value-requires-clause-channels c =
    let set = set_of c.args.set.now in
    subst (AreBelow (length set.moduli)) (sym c.info-which.ensures) (AreBelow-range (length set.moduli) set.info (omega (arith, info_below set c.rules.ensures.set)))

pub returns-then-value-bound : goal.returns-then-value-bound
returns-then-value-bound c = λ x in' is.
    let set = set_of c.args.set.now in
    let number = c.digits_of.ensures.number in
    let cs = entries_at c.info-which.result set.moduli in
    let value : c.value_of-value.result ≡ number.0 = c.value_of-value.ensures ∙ ap (digits_value cs) number.2 ∙ digits_value-digits cs number.0 number.1.small in
    let bound : nat_abs (cast_signed w128 (cast_unsigned w128 c.bound.result)) ≡ range_bound set = ap nat_abs (to_z-of_z w128 c.bound.result (search rules) ∙ c.bound.ensures) in
    let above : range_bound set < number.0 = omega arith in
    Less-above_bound set x number.0 c.rules.ensures.set in' (HasInformation-from_number set c.info-which.result c.args.v.now x number.0 c.rules.ensures.set c.info-which.ensures is number.1) above

pub returns-else-value-bound : goal.returns-else-value-bound
returns-else-value-bound c = λ x in' is.
    let set = set_of c.args.set.now in
    let number = c.digits_of.ensures.number in
    let cs = entries_at c.info-which.result set.moduli in
    let value : c.value_of-value.result ≡ number.0 = c.value_of-value.ensures ∙ ap (digits_value cs) number.2 ∙ digits_value-digits cs number.0 number.1.small in
    let bound : nat_abs (cast_signed w128 (cast_unsigned w128 c.bound.result)) ≡ range_bound set = ap nat_abs (to_z-of_z w128 c.bound.result (search rules) ∙ c.bound.ensures) in
    let within : number.0 ≤ range_bound set = omega arith in
    int_cmp-within_bound set x number.0 c.cmp.result c.rules.ensures.set in' (HasInformation-from_number set c.info-which.result c.args.v.now x number.0 c.rules.ensures.set c.info-which.ensures is number.1) within (c.cmp.ensures ∙ ap (λ n. nat_cmp n 0) value)
