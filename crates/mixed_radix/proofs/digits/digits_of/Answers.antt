use Rattle.std.proofs.Common.{◌≡◌, ◌<◌, ◌++◌, ◌∷◌, [], length, take, get_or, sym, ap, ◌∙◌, subst, arith}
use Rattle.std.proofs.lemmas.List.{length_push, take_more, take_all}
use Rattle.number_theory.specs.Residue.{AreResidues}
use Rattle.moduli_sets.specs.Moduli.{set_of}
use Rattle.mixed_radix.specs.Digits.{digits}
use Rattle.mixed_radix.specs.Chosen.{entries_at}
use Rattle.mixed_radix.proofs.ChosenLemmas.{length-entries_at, AreResidues-entries_at, ArePairwiseCoprime-entries_at}
use Rattle.mixed_radix.proofs.DigitLemmas.{length-digits, AreResidues-digits}
use Rattle.mixed_radix.proofs.digits.digits_of.Goals as goal

pub loop-n-preserved : goal.loop-n-preserved
loop-n-preserved c =
    let cs = entries_at c.args.which.now (set_of c.args.set.now).moduli in
    let k = c.loop-n.n in
    let count = c.loop-n.invariant.count in
    record {
      count = omega (arith, ap length c.push.ensures, length_push c.loop-n.digits c.digit.result);
      front = λ n number.
          let found = c.loop-n.invariant.front n number in
          let known : c.loop-n.digits ≡ take (length c.loop-n.digits) (digits cs n) = found ∙ ap (λ j. take j (digits cs n)) (sym count) in
          let digit : c.digit.result ≡ get_or (digits cs n) k 0 = c.digit.ensures n number known ∙ ap (λ j. get_or (digits cs n) j 0) count in
          let within : k < length (digits cs n) = omega (arith, length-digits cs n, length-entries_at c.args.which.now (set_of c.args.set.now).moduli) in
          c.push.ensures ∙ ap (λ xs. xs ++ c.digit.result ∷ []) found ∙ ap (λ d. take k (digits cs n) ++ d ∷ []) digit ∙ sym (take_more (digits cs n) k 0 within);
    }

number : goal.returns-clause-number
number c =
    let ms = (set_of c.args.set.now).moduli in
    let which = c.args.which.now in
    let cs = entries_at which ms in
    let coprime = ArePairwiseCoprime-entries_at which ms c.len-n-end.ensures.choice c.requires.channels c.rules.ensures.set.coprime in
    let one = c.one_number_has_the_residues.ensures.exists cs (entries_at which c.args.v.now) coprime (AreResidues-entries_at which ms c.args.v.now c.requires.channels c.requires.residues) in
    let all = take_all c.loop-n.n (digits cs one.0) (omega (arith, length-digits cs one.0, length-entries_at which ms)) in
    (one.0, one.1, c.loop-n.invariant.front one.0 one.1 ∙ all)

pub returns-clause-number : goal.returns-clause-number
returns-clause-number c = number c

pub returns-clause-are : goal.returns-clause-are
returns-clause-are c =
    let w = number c in
    subst (AreResidues (entries_at c.args.which.now (set_of c.args.set.now).moduli)) (sym w.2) (AreResidues-digits (entries_at c.args.which.now (set_of c.args.set.now).moduli) w.0 w.1.small)
