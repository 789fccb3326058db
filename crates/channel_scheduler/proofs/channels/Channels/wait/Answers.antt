use Rattle.std.proofs.Common.{◌≡◌, ◌<◌, true, sym, ◌∙◌, subst}
use Rattle.channel_scheduler.specs.Channels.{RunsWhile, must_wait}
use Rattle.channel_scheduler.proofs.KeepingLemmas.{remaining, smaller}
use Rattle.channel_scheduler.proofs.LoopLemmas.{RunsWhile-none, RunsWhile-more, must_wait_behind}
use Rattle.channel_scheduler.proofs.channels.Channels.wait.Goals as goal
use Rattle.channel_scheduler.proofs.channels.Channels.wait.Goals.{then-is_in_rounds, else-is_in_rounds}

pub loop-self-init : goal.loop-self-init
loop-self-init g c =
    let book = c.args.faults.now in
    let start = c.args.self.now in
    elim c.if-is_in_rounds.branch [
      | then-is_in_rounds w ↦ subst (RunsWhile must_wait book start) (sym w.self-is) w.end_round.ensures
      | else-is_in_rounds w ↦ subst (RunsWhile must_wait book start) (sym w.self-is) (RunsWhile-none must_wait book start)
    ]

pub loop-self-preserved : goal.loop-self-preserved
loop-self-preserved g c =
    RunsWhile-more must_wait c.args.faults.now _ c.loop-self.self _ c.loop-self.invariant (sym c.must_wait.ensures.answer ∙ c.loop-self-test.true) c.pass.ensures

pub loop-self-smaller : goal.loop-self-smaller
loop-self-smaller g c =
    let here : must_wait c.loop-self.self ≡ true = sym c.must_wait.ensures.answer ∙ c.loop-self-test.true in
    subst (λ s. remaining s < remaining c.loop-self.self) (sym c.pass.ensures) (smaller c.args.faults.now c.loop-self.self c.must_wait.ensures.kept (must_wait_behind c.loop-self.self here))
