use Rattle.std.proofs.Common.{◌<◌, ◌^◌, ◌-◌, length, arith}
use Rattle.channel_lane.specs.Meaning.{CanPerform}
use Rattle.channel_lane.specs.Lane.{LaneState, lane_after}
use Rattle.lane_bank.specs.Bank.{no_lane}
use Rattle.lane_bank.proofs.BankLemmas.{All-get_or-mapped, mapped_more}
use Rattle.lane_bank.proofs.column.issue_to_all.Goals as goal

pub perform-answer-requires-clause-can : goal.perform-answer-requires-clause-can
perform-answer-requires-clause-can g c =
    let old = g.B.Bank.lanes_of c.args.bank.now in
    let can : LaneState → Type 0 = λ lane. CanPerform (length lane.words) (length lane.set.moduli) c.args.op.now in
    All-get_or-mapped can (lane_after c.args.faults.now c.args.op.now) old _ c.loop-i.i no_lane (omega arith) c.requires.can c.loop-i.invariant

pub perform-answer-requires-clause-count : goal.perform-answer-requires-clause-count
perform-answer-requires-clause-count g c =
    let old = g.B.Bank.lanes_of c.args.bank.now in
    let has_room : LaneState → Type 0 = λ lane. lane.answers < 2 ^ 64 - 1 in
    All-get_or-mapped has_room (lane_after c.args.faults.now c.args.op.now) old _ c.loop-i.i no_lane (omega arith) c.requires.count c.loop-i.invariant

pub loop-i-preserved : goal.loop-i-preserved
loop-i-preserved g c =
    let old = g.B.Bank.lanes_of c.args.bank.now in
    mapped_more (lane_after c.args.faults.now c.args.op.now) old _ _ c.loop-i.i no_lane (omega arith) c.loop-i.invariant c.perform-answer.ensures.lanes
