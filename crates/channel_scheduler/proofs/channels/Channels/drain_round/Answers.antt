use Rattle.std.proofs.Common.{◌<◌, ◌≤◌, length, sym, subst, ◌∙◌}
use Rattle.channel_scheduler.specs.Channels.{ChannelState, is_behind}
use Rattle.channel_scheduler.proofs.KeepingLemmas.{remaining, smaller}
use Rattle.channel_scheduler.proofs.LoopLemmas.{RunsWhile-more, behind_in_round, not_control, used_passed}
use Rattle.channel_scheduler.proofs.channels.Channels.drain_round.Goals as goal

pub loop-self-preserved : goal.loop-self-preserved
loop-self-preserved g c =
    let here = c.loop-self.self in
    let book = c.args.faults.now in
    let rounds = c.loop-self.invariant.rounds in
    let (channel, behind) = behind_in_round here (sym c.is_behind_in_round.ensures.answer ∙ c.loop-self-test.true) in
    record {
      run = RunsWhile-more is_behind book _ here _ c.loop-self.invariant.run behind c.pass_in_round.ensures;
      rounds = subst (λ (s : ChannelState). length s.schedule ≤ s.used) (sym c.pass_in_round.ensures) (used_passed book here rounds channel);
    }

pub loop-self-smaller : goal.loop-self-smaller
loop-self-smaller g c =
    let here = c.loop-self.self in
    let (channel, behind) = behind_in_round here (sym c.is_behind_in_round.ensures.answer ∙ c.loop-self-test.true) in
    subst (λ s. remaining s < remaining here) (sym c.pass_in_round.ensures) (smaller c.args.faults.now here c.is_behind_in_round.ensures.kept (not_control here c.loop-self.invariant.rounds channel))

pub pass_in_round-requires-clause-channel : goal.pass_in_round-requires-clause-channel
pass_in_round-requires-clause-channel g c = (behind_in_round c.loop-self.self (sym c.is_behind_in_round.ensures.answer ∙ c.loop-self-test.true)).0
