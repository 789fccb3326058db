use Rattle.std.proofs.Common.{◌≡◌, ◌<◌, slice_index, All, map, replicate, refl, sym, ap, ◌∙◌, subst, arith}
use Rattle.std.proofs.lemmas.List.Elements.{All-replicate}
use Rattle.number_theory.specs.Residue.{residue}
use Rattle.moduli_sets.specs.Moduli.{set_of}
use Rattle.channel_lane.specs.Lane.{LaneState}
use Rattle.channel_lane.proofs.ResidueSteps.{residues-below}
use Rattle.channel_lane.proofs.lane.Lane.make.Goals as goal

pub invariant_of-result : goal.invariant_of-result
invariant_of-result g c =
    let m = slice_index (set_of c.args.set.now).moduli c.args.channel in
    let same : c.modulus.result ≡ m = c.modulus.ensures.value ∙ sym c.requires.modulus in
    let positive : 0 < m = omega (arith, same, c.modulus.ensures.at_least_two) in
    record {
      channel_in = c.requires.channel;
      modulus_is = c.requires.modulus;
      sixteen = refl;
      eight = refl;
      registers_below = All-replicate (λ x. x < m) 16 0 positive;
      scratch_below = All-replicate (λ x. x < m) 8 0 positive;
      words_below = subst (All (λ x. x < m)) (sym (c.in_ok-residues_of.ensures ∙ ap (λ k. map (λ x. residue x k) c.args.start.now) same)) (residues-below m c.args.start.now positive);
    }

pub returns : goal.returns
returns g c =
    let words = c.in_ok-residues_of.ensures ∙ ap (λ m. map (λ x. residue x m) c.args.start.now) (c.modulus.ensures.value ∙ sym c.requires.modulus) in
    let lane : _ → LaneState = λ ws. record { set = set_of c.args.set.now; channel = c.args.channel; registers = replicate 16 0; scratch = replicate 8 0; words = ws; answers = 0 } in
    ap lane words
