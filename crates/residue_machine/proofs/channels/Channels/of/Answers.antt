use Rattle.std.proofs.Common.{◌≡◌, ◌≤◌, [], All, length, replicate, refl, sym, ap, subst, ◌∙◌, arith}
use Rattle.std.proofs.lemmas.List.{length-replicate}
use Rattle.std.proofs.lemmas.List.Elements.{All-replicate}
use Rattle.moduli_sets.specs.Set.{ModuliSet}
use Rattle.moduli_sets.specs.Moduli.{set_of}
use Rattle.moduli_sets.specs.Name.{set_of_name}
use Rattle.lane_bank.specs.Bank.{lanes_at_start}
use Rattle.machine_table.specs.Faults.{IsSound}
use Rattle.machine_table.specs.Objects.{code_of, set_of_object, words_of}
use Rattle.residue_machine.proofs.channels.Channels.of.Goals as goal

pub invariant_of-result : goal.invariant_of-result
invariant_of-result g c =
    let object = c.args.object.now in
    let set = set_of c.of-set.result in
    let is_named : set ≡ set_of_name (set_of_object object) = c.of-set.ensures ∙ ap set_of_name c.set.ensures in
    let all : c.channels._channel ≡ length set.moduli = omega (arith, c.channels-test.false, c.channels.auto._channel-end, c.count-channel-end.ensures) in
    let corrections : c.channels.corrections ≡ replicate (length set.moduli) 0 = c.channels.invariant ∙ ap (λ n. replicate n 0) all in
    let made = subst (λ (s : ModuliSet). g.R.Rack.IsUnderWay c.args.rack (lanes_at_start s 0 (words_of object)) []) (sym is_named) c.requires.made in (
      record {
        rules = c.rules-2.ensures.set;
        sound = subst (λ (s : ModuliSet). IsSound s (code_of object) (words_of object)) (sym is_named) c.rules.ensures.sound;
        decodes = c.requires.decoder ∙ sym is_named;
        come = record { ops = []; count = refl; lanes = g.met.R.Rack.lanes_under_way c.args.rack (lanes_at_start set 0 (words_of object)) [] made };
        counts = ap length corrections ∙ length-replicate (length set.moduli) 0;
        few = subst (All (λ n. n ≤ 0)) (sym corrections) (All-replicate (λ n. n ≤ 0) (length set.moduli) 0 (omega arith));
      },
      is_named,
    )
