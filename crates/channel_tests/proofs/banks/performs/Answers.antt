use Rattle.std.proofs.Common.{All, length, sym, ap, ◌∙◌, subst}
use Rattle.moduli_sets.specs.Name.{set_of_name}
use Rattle.channel_lane.specs.Meaning.{CanPerform}
use Rattle.channel_lane.specs.Lane.{LaneState}
use Rattle.lane_bank.specs.Bank.{lanes_at_start}
use Rattle.lane_bank.proofs.BankLemmas.{CanPerform-at_start}
use Rattle.channel_tests.proofs.banks.performs.Goals as goal

pub perform_in_all-found-requires-clause-can : goal.perform_in_all-found-requires-clause-can
perform_in_all-found-requires-clause-can g c =
    let can : LaneState → Type 0 = λ lane. CanPerform (length lane.words) (length lane.set.moduli) c.args.op.now in
    let lanes = c.in_ok-bank.ensures ∙ ap (λ set. lanes_at_start set 0 c.args.start.now) c.of.ensures in
    subst (All can) (sym lanes) (CanPerform-at_start (set_of_name c.args.name) 0 c.args.start.now c.args.op.now c.requires.can)
