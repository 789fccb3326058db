use Rattle.std.proofs.Common.{◌≡◌, None, Some, sym, ap, ◌∙◌}
use Rattle.channel_lane.specs.Meaning.{destination}
use Rattle.channel_lane.proofs.LaneLemmas.{one_answer_more, lane_after-written, lane_after-shown}
use Rattle.channel_lane.proofs.lane.Lane.perform.Goals as goal
use Rattle.channel_lane.proofs.lane.Lane.perform.Goals.{in-Some, in_default}

pub returns-clause-lane : goal.returns-clause-lane
returns-clause-lane g c =
    ap one_answer_more c.self-2.view_is
    ∙ elim c.match-destination.branch [
      | in-Some w ↦
          let place : Some w.in-Some.to ≡ destination c.args.op.now = cc in
          ap one_answer_more (w.self-is ∙ w.write.ensures) ∙ lane_after-written c.args.faults.now c.args.op.now c.args.self.now w.in-Some.to c.answer-answer.result place c.answer-answer.ensures.value
      | in_default w ↦
          let place : None ≡ destination c.args.op.now = sym w.in_default.is ∙ c.destination.ensures in
          ap one_answer_more w.self-is ∙ lane_after-shown c.args.faults.now c.args.op.now c.args.self.now place
    ]
