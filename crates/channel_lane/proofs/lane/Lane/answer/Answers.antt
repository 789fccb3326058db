use Rattle.std.proofs.Common.{◌≡◌, ◌%◌, None, Some, ap, ◌∙◌}
use Rattle.fault_book.specs.Book.{fault_at}
use Rattle.channel_lane.specs.Lane.{LaneState}
use Rattle.channel_lane.proofs.LaneLemmas.{answer_of-fault, answer_of-value}
use Rattle.channel_lane.proofs.lane.Lane.answer.Goals as goal

pub returns-in-Some-clause-value : goal.returns-in-Some-clause-value
returns-in-Some-clause-value g c =
    let asked = ap (λ (lane : LaneState). fault_at c.args.faults.now lane.channel lane.answers) c.self.view_is in
    let found : Some c.in-Some.fault ≡ fault_at c.args.faults.now c.args.self.now.channel c.args.self.now.answers = cc in
    ap (λ m. c.in-Some.fault % m) c.modulus.ensures.value ∙ answer_of-fault c.args.faults.now c.args.op.now c.args.self.now c.in-Some.fault found

pub returns-in-None-clause-value : goal.returns-in-None-clause-value
returns-in-None-clause-value g c =
    let asked = ap (λ (lane : LaneState). fault_at c.args.faults.now lane.channel lane.answers) c.self.view_is in
    let none : None ≡ fault_at c.args.faults.now c.args.self.now.channel c.args.self.now.answers = cc in
    c.value.ensures.value ∙ answer_of-value c.args.faults.now c.args.op.now c.args.self.now none
