use Rattle.std.proofs.Common.{◌<◌, ◌^◌, All, map, sym, ap, ◌∙◌, subst, refl}
use Rattle.channel_alu.specs.declared.operation.MicroOp.TheVariants.{Show}
use Rattle.channel_lane.specs.Lane.{answer_of, lane_after}
use Rattle.channel_scheduler.specs.Channels.{IsAble, must_wait, is_behind}
use Rattle.channel_scheduler.proofs.RunLemmas.{show-run}
use Rattle.channel_scheduler.proofs.LoopLemmas.{can_now, few_now, run_lanes, run_plan, run_answers, issued_lanes, issued_answers, issued_plan, settled_answers}
use Rattle.channel_scheduler.proofs.scheduled.ScheduledRack.show.Goals as goal

pub issue-requires-clause-can : goal.issue-requires-clause-can
issue-requires-clause-can g c =
    let book = c.args.self.now.faults in
    let op = Show c.args.place in
    let same = run_lanes must_wait book c.args.self.now.channels c.wait.new.self c.wait.ensures.run in
    can_now book c.wait.new.self op (subst (All (λ lane. IsAble lane op)) (sym same) c.requires.place)

pub issue-requires-clause-few : goal.issue-requires-clause-few
issue-requires-clause-few g c =
    let book = c.args.self.now.faults in
    let same = run_lanes must_wait book c.args.self.now.channels c.wait.new.self c.wait.ensures.run in
    few_now book c.wait.new.self (subst (All (λ lane. lane.answers < 10 ^ 18)) (sym same) c.requires.room)

pub returns-clause-column : goal.returns-clause-column
returns-clause-column g c =
    let book = c.args.self.now.faults in
    let op = Show c.args.place in
    c.column.ensures
    ∙ (sym (settled_answers book c.drain.new.self c.drain.ensures.kept c.drain.ensures.ends)
    ∙ (run_answers is_behind book c.issue.new.self c.drain.new.self c.drain.ensures.run
    ∙ (issued_answers book c.wait.new.self c.issue.new.self op c.issue.ensures.kept c.issue.ensures.turn
    ∙ ap (map (answer_of book op)) (run_lanes must_wait book c.args.self.now.channels c.wait.new.self c.wait.ensures.run))))

pub returns-clause-plan : goal.returns-clause-plan
returns-clause-plan g c =
    let book = c.args.self.now.faults in
    let waited = run_plan must_wait book c.args.self.now.channels c.wait.new.self c.wait.ensures.run in
    let shown = issued_plan c.wait.new.self c.issue.new.self (Show c.args.place) c.issue.ensures.turn in
    let drained = run_plan is_behind book c.issue.new.self c.drain.new.self c.drain.ensures.run in
    ap (λ x. (x, c.drain.new.self.journal.room)) (drained.0 ∙ (shown.0 ∙ waited.0)) ∙ ap (λ x. (c.args.self.now.channels.schedule, x)) (drained.1 ∙ (shown.1 ∙ waited.1))

pub returns-clause-lanes : goal.returns-clause-lanes
returns-clause-lanes g c =
    let book = c.args.self.now.faults in
    let op = Show c.args.place in
    run_lanes is_behind book c.issue.new.self c.drain.new.self c.drain.ensures.run
    ∙ (issued_lanes book c.wait.new.self c.issue.new.self op c.issue.ensures.kept c.issue.ensures.turn
    ∙ ap (map (lane_after book op)) (run_lanes must_wait book c.args.self.now.channels c.wait.new.self c.wait.ensures.run))

pub returns-clause-run : goal.returns-clause-run
returns-clause-run g c = λ start ops way.
    show-run c.args.self.now.faults c.args.self.now.channels c.wait.new.self c.issue.new.self c.drain.new.self start ops (Show c.args.place) c.wait.ensures.run c.wait.ensures.ends c.issue.ensures.turn refl c.drain.ensures.run c.drain.ensures.ends way
