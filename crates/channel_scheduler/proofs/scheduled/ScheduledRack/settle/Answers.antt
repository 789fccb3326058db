use Rattle.std.proofs.Common.{ap, ◌∙◌}
use Rattle.channel_scheduler.specs.Channels.{is_behind}
use Rattle.channel_scheduler.proofs.RunLemmas.{settle-run}
use Rattle.channel_scheduler.proofs.LoopLemmas.{run_lanes, run_plan}
use Rattle.channel_scheduler.proofs.scheduled.ScheduledRack.settle.Goals as goal

pub returns-clause-plan : goal.returns-clause-plan
returns-clause-plan g c =
    let plan = run_plan is_behind c.args.self.now.faults c.args.self.now.channels c.drain.new.self c.drain.ensures.run in
    ap (λ x. (x, c.drain.new.self.journal.room)) plan.0 ∙ ap (λ x. (c.args.self.now.channels.schedule, x)) plan.1

pub returns-clause-lanes : goal.returns-clause-lanes
returns-clause-lanes g c = run_lanes is_behind c.args.self.now.faults c.args.self.now.channels c.drain.new.self c.drain.ensures.run

pub returns-clause-run : goal.returns-clause-run
returns-clause-run g c = λ start ops way.
    settle-run c.args.self.now.faults c.args.self.now.channels c.drain.new.self start ops c.drain.ensures.run c.drain.ensures.ends way
