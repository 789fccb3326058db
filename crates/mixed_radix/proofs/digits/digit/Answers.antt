use Rattle.std.proofs.Common.{◌≡◌, ◌/◌, ◌%◌, ◌<◌, pos, ◌-ℤ◌, ◌*ℤ◌, length, take, get_or, sym, ap, ◌∙◌, subst, arith}
use Rattle.number_theory.specs.Coprime.{IsInverse, product}
use Rattle.number_theory.specs.Residue.{residue}
use Rattle.number_theory.proofs.ResidueLemmas.{residue-below}
use Rattle.moduli_sets.specs.Moduli.{set_of}
use Rattle.mixed_radix.specs.Chosen.{entries_at}
use Rattle.mixed_radix.proofs.ChosenLemmas.{channels_ascend}
use Rattle.mixed_radix.proofs.DigitLemmas.{length-residues, AreResidues-at}
use Rattle.mixed_radix.proofs.GarnerLemmas.{left_none, left_more, left_all}
use Rattle.mixed_radix.proofs.digits.digit.Goals as goal

pub at-rest-requires : goal.at-rest-requires
at-rest-requires c =
    let below = c.requires.channels c.len.result 0 (omega arith) in
    omega (arith, below, length-residues (set_of c.args.set.now).moduli c.args.v.now c.requires.residues)

pub loop-n-init : goal.loop-n-init
loop-n-init c =
    let ms = (set_of c.args.set.now).moduli in
    let k = length c.args.found.now in
    let channel : c.at-channel.result ≡ get_or c.args.which.now k 0 = cc in
    let modulus : c.modulus-modulus.result ≡ get_or ms (get_or c.args.which.now k 0) 0 = cc in
    let at_channel : c.at-rest.result ≡ get_or c.args.v.now (get_or c.args.which.now k 0) 0 = cc in
    record {
      small = omega (arith, AreResidues-at ms c.args.v.now (get_or c.args.which.now k 0) c.requires.residues (c.requires.channels k 0 (omega arith)));
      left = λ n number front. at_channel ∙ left_none c.args.which.now ms c.args.v.now n k number (omega arith) ∙ ap (λ m. (n / 1) % m) (sym modulus);
    }

pub inverse-requires-clause-differ : goal.inverse-requires-clause-differ
inverse-requires-clause-differ c =
    let ascends = channels_ascend c.args.which.now c.loop-n.n (length c.args.found.now) c.requires.choice (omega arith) c.requires.more in
    let channel : c.at-channel.result ≡ get_or c.args.which.now (length c.args.found.now) 0 = cc in
    let earlier : c.at-in-loop-n.result ≡ get_or c.args.which.now c.loop-n.n 0 = c.at-in-loop-n.ensures in
    λ same. omega arith

pub loop-n-preserved : goal.loop-n-preserved
loop-n-preserved c =
    let ms = (set_of c.args.set.now).moduli in
    let m = c.modulus-modulus.result in
    let channel : c.at-in-loop-n.result ≡ get_or c.args.which.now c.loop-n.n 0 = c.at-in-loop-n.ensures in
    let modulus : get_or ms c.at-channel.result 0 ≡ m = sym c.modulus-modulus.ensures.value in
    let inverse : IsInverse (get_or ms (get_or c.args.which.now c.loop-n.n 0) 0) m c.inverse.result =
    subst (λ i. IsInverse (get_or ms i 0) m c.inverse.result) channel (subst (λ a. IsInverse (get_or ms c.at-in-loop-n.result 0) a c.inverse.result) modulus c.inverse.ensures.inverse) in
    let step : c.unscaled_residue-rest.result ≡ residue ((pos c.loop-n.rest -ℤ pos (get_or c.args.found.now c.loop-n.n 0)) *ℤ pos c.inverse.result) m =
    c.unscaled_residue-rest.ensures ∙ ap (λ d. residue ((pos c.loop-n.rest -ℤ pos d) *ℤ pos c.inverse.result) m) c.at.ensures in
    let positive : 0 < m = omega arith in
    record {
      small = subst (λ r. r < m) (sym c.unscaled_residue-rest.ensures) (residue-below _ m positive);
      left = λ n number front. step ∙ left_more c.args.which.now ms c.args.found.now n c.loop-n.n m c.inverse.result c.loop-n.rest (omega arith) (omega arith) front positive inverse (c.loop-n.invariant.left n number front);
    }

pub returns : goal.returns
returns c = λ n number front.
    let ms = (set_of c.args.set.now).moduli in
    let k = length c.args.found.now in
    let done : c.loop-n.n ≡ k = omega arith in
    let modulus : c.modulus-modulus.result ≡ get_or ms (get_or c.args.which.now k 0) 0 = cc in
    let left : c.loop-n.rest ≡ (n / product (take k (entries_at c.args.which.now ms))) % get_or ms (get_or c.args.which.now k 0) 0 =
    c.loop-n.invariant.left n number front ∙ ap (λ j. (n / product (take j (entries_at c.args.which.now ms))) % c.modulus-modulus.result) done ∙ ap (λ m. (n / product (take k (entries_at c.args.which.now ms))) % m) modulus in
    left_all c.args.which.now ms n k c.loop-n.rest (omega arith) left
