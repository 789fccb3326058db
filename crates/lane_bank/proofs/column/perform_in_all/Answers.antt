use Rattle.std.proofs.Common.{◌<◌, ◌^◌, ◌-◌, length, ap, ◌∙◌, arith}
use Rattle.channel_lane.specs.Meaning.{CanPerform}
use Rattle.channel_lane.specs.Lane.{LaneState, answer_of, lane_after}
use Rattle.lane_bank.specs.Bank.{no_lane}
use Rattle.lane_bank.proofs.BankLemmas.{All-get_or-mapped, get_or-mapped, mapped_more, column_more}
use Rattle.lane_bank.proofs.column.perform_in_all.Goals as goal

pub perform-requires-clause-can : goal.perform-requires-clause-can
perform-requires-clause-can g c =
    let old = g.B.Bank.lanes_of c.args.bank.now in
    let can : LaneState → Type 0 = λ lane. CanPerform (length lane.words) (length lane.set.moduli) c.args.op.now in
    All-get_or-mapped can (lane_after c.args.faults.now c.args.op.now) old _ c.loop-i.i no_lane (omega arith) c.requires.can c.loop-i.invariant.lanes

pub perform-requires-clause-count : goal.perform-requires-clause-count
perform-requires-clause-count g c =
    let old = g.B.Bank.lanes_of c.args.bank.now in
    let has_room : LaneState → Type 0 = λ lane. lane.answers < 2 ^ 64 - 1 in
    All-get_or-mapped has_room (lane_after c.args.faults.now c.args.op.now) old _ c.loop-i.i no_lane (omega arith) c.requires.count c.loop-i.invariant.lanes

pub loop-i-preserved : goal.loop-i-preserved
loop-i-preserved g c =
    let old = g.B.Bank.lanes_of c.args.bank.now in
    let i = c.loop-i.i in
    let within : i < length old = omega arith in
    let after = lane_after c.args.faults.now c.args.op.now in
    let answer = answer_of c.args.faults.now c.args.op.now in
    let same = get_or-mapped after old _ i no_lane within c.loop-i.invariant.lanes in
    record {
      lanes = mapped_more after old _ _ i no_lane within c.loop-i.invariant.lanes c.perform.ensures.lanes;
      column = column_more answer old i no_lane _ _ _ within c.loop-i.invariant.column c.push.ensures (c.perform.ensures.answer ∙ ap answer same);
    }
