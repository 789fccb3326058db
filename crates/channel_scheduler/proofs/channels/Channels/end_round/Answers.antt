use Rattle.std.proofs.Common.{◌<◌, ◌≤◌, length, sym, subst, arith}
use Rattle.channel_scheduler.specs.Channels.{ChannelState, must_wait}
use Rattle.channel_scheduler.proofs.KeepingLemmas.{remaining, smaller}
use Rattle.channel_scheduler.proofs.LoopLemmas.{RunsWhile-more, must_wait_in_round, used_passed, not_control}
use Rattle.channel_scheduler.proofs.channels.Channels.end_round.Goals as goal

pub loop-self-preserved : goal.loop-self-preserved
loop-self-preserved g c =
    let here = c.loop-self.self in
    let book = c.args.faults.now in
    let rounds = c.loop-self.invariant.rounds in
    let channel : 0 < here.round = omega (arith, c.round.ensures.round, c.loop-self-test.true) in
    record {
      run = RunsWhile-more must_wait book _ here _ c.loop-self.invariant.run (must_wait_in_round here rounds channel) c.pass_in_round.ensures;
      rounds = subst (λ (s : ChannelState). length s.schedule ≤ s.used) (sym c.pass_in_round.ensures) (used_passed book here rounds channel);
    }

pub loop-self-smaller : goal.loop-self-smaller
loop-self-smaller g c =
    let here = c.loop-self.self in
    let channel : 0 < here.round = omega (arith, c.round.ensures.round, c.loop-self-test.true) in
    subst (λ s. remaining s < remaining here) (sym c.pass_in_round.ensures) (smaller c.args.faults.now here c.round.ensures.kept (not_control here c.loop-self.invariant.rounds channel))
