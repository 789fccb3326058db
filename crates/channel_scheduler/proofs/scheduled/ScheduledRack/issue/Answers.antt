use Rattle.std.proofs.Common.{◌<◌, ◌^◌, All, map, sym, ap, ◌∙◌, subst}
use Rattle.channel_lane.specs.Lane.{lane_after}
use Rattle.channel_scheduler.specs.Channels.{IsAble, must_wait}
use Rattle.channel_scheduler.proofs.RunLemmas.{issue-run}
use Rattle.channel_scheduler.proofs.LoopLemmas.{can_now, few_now, run_lanes, run_plan, issued_lanes, issued_plan}
use Rattle.channel_scheduler.proofs.scheduled.ScheduledRack.issue.Goals as goal

pub issue-requires-clause-can : goal.issue-requires-clause-can
issue-requires-clause-can g c =
    let book = c.args.self.now.faults in
    let same = run_lanes must_wait book c.args.self.now.channels c.wait.new.self c.wait.ensures.run in
    can_now book c.wait.new.self c.args.op (subst (All (λ lane. IsAble lane c.args.op)) (sym same) c.requires.can)

pub issue-requires-clause-few : goal.issue-requires-clause-few
issue-requires-clause-few g c =
    let book = c.args.self.now.faults in
    let same = run_lanes must_wait book c.args.self.now.channels c.wait.new.self c.wait.ensures.run in
    few_now book c.wait.new.self (subst (All (λ lane. lane.answers < 10 ^ 18)) (sym same) c.requires.room)

pub returns-clause-plan : goal.returns-clause-plan
returns-clause-plan g c =
    let waited = run_plan must_wait c.args.self.now.faults c.args.self.now.channels c.wait.new.self c.wait.ensures.run in
    let last = issued_plan c.wait.new.self c.issue.new.self c.args.op c.issue.ensures.turn in
    ap (λ x. (x, c.issue.new.self.journal.room)) (last.0 ∙ waited.0) ∙ ap (λ x. (c.args.self.now.channels.schedule, x)) (last.1 ∙ waited.1)

pub returns-clause-lanes : goal.returns-clause-lanes
returns-clause-lanes g c =
    let book = c.args.self.now.faults in
    issued_lanes book c.wait.new.self c.issue.new.self c.args.op c.issue.ensures.kept c.issue.ensures.turn
    ∙ ap (map (lane_after book c.args.op)) (run_lanes must_wait book c.args.self.now.channels c.wait.new.self c.wait.ensures.run)

pub returns-clause-run : goal.returns-clause-run
returns-clause-run g c = λ start ops way.
    issue-run c.args.self.now.faults c.args.self.now.channels c.wait.new.self c.issue.new.self start ops c.args.op c.wait.ensures.run c.wait.ensures.ends c.issue.ensures.turn c.requires.silent way
