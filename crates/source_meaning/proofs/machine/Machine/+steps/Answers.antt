use Rattle.std.proofs.Common.{◌≡◌, suc, ◌+◌, ◌-◌, ◌≤◌, pos, ◌+ℤ◌, ◌<ℤ◌, take, Ok, Err, refl, sym, ap, subst, to_z, of_z, rules, arith}
use Rattle.std.proofs.lemmas.Int.{to_z-of_z, ints}
use borrow.Author.Gap.{gap_up, read_sfits, up_fits}
use mir.Syntax.{w128}
use mir.Val.{SFits}
use Rattle.source_tree.specs.Statement.{turns_of}
use Rattle.resolved_tree.specs.Meaning.{calls_of, for_turns, steps_of}
use Rattle.source_meaning.specs.Follows.{state_of, Follows}
use Rattle.source_meaning.proofs.Following.{err_follows}
use Rattle.source_meaning.proofs.Stepping.{assign_goes, test_stops, first_goes, second_goes, start_stops, end_stops, for_goes, while_goes, arguments_stop, call_goes}
use Rattle.source_meaning.proofs.Turns.{turns_more, turns_last, turns_none}
use Rattle.source_meaning.proofs.ForLoops.{turn_stops, body_stops, turn_goes, turns_done, same_ends}
use Rattle.source_meaning.proofs.WhileLoops.{while_test_stops, while_ends, while_traps, while_visit_stops, while_body_stops, while_goes_on}
use Rattle.source_meaning.proofs.StepLists.{next_goes, next_stops, steps_done}
use Rattle.source_meaning.proofs.CallRuns.{held_stop, locals_stop, body_goes}
use Rattle.source_meaning.proofs.Weights.{weight, weights, procedures_weight, one_of, before_weight}
use Rattle.source_meaning.proofs.machine.Machine.+steps.Goals as goal

pub call-returns-in_err-put_held-in-Some : goal.call-returns-in_err-put_held-in-Some
call-returns-in_err-put_held-in-Some g t c =
    err_follows g.K.Sink.puts g.K.Sink.state _ _ _ _ _ _ _ c.from_residual.ensures
    (held_stop g.K.Sink.puts g.K.Sink.state c.args.procedures.now c.args.number c.in-Some.at c.index-procedures-at.result (c.in-Some.ensures.calls _ c.index-procedures-at.is) (c.in-Some.ensures.number _ c.index-procedures-at.is) c.args.count c.args.self.now c.args.sink.now _ _ c.in_err-put_held-in-Some.ensures)

pub call-returns-in_err-locals-in-Some : goal.call-returns-in_err-locals-in-Some
call-returns-in_err-locals-in-Some g t c =
    err_follows g.K.Sink.puts g.K.Sink.state _ _ _ _ _ _ _ c.from_residual-in_err-locals-in-Some.ensures
    (locals_stop g.K.Sink.puts g.K.Sink.state c.args.procedures.now c.args.number c.in-Some.at c.index-procedures-at.result (c.in-Some.ensures.calls _ c.index-procedures-at.is) (c.in-Some.ensures.number _ c.index-procedures-at.is) c.args.count c.args.self.now c.args.sink.now _ _ c.in_ok-put_held-in-Some.ensures _ _ (rw c.as_slice.ensures at c.in_err-locals-in-Some.ensures))

pub call-steps-requires : goal.call-steps-requires
call-steps-requires g t c =
    let w : procedures_weight (take c.in-Some.at c.args.procedures.now) + weights c.index-procedures-at.result.body + 2 ≤ procedures_weight c.args.procedures.now =
    before_weight c.args.procedures.now c.in-Some.at c.index-procedures-at.result c.in-Some.ensures.within c.index-procedures-at.is in
    let b : weights c.as_slice-in-Some.result.now ≡ weights c.index-procedures-at.result.body = ap weights c.as_slice-in-Some.ensures in
    let d = c.decreases in
    λ κs h. (omega arith, h)

pub call-returns-in_ok-locals-in-Some : goal.call-returns-in_ok-locals-in-Some
call-returns-in_ok-locals-in-Some g t c =
    body_goes g.K.Sink.puts g.K.Sink.state c.args.procedures.now c.args.number c.in-Some.at c.index-procedures-at.result (c.in-Some.ensures.calls _ c.index-procedures-at.is) (c.in-Some.ensures.number _ c.index-procedures-at.is) c.args.count c.args.self.now c.args.sink.now _ _ c.in_ok-put_held-in-Some.ensures _ _ _ _ _ (rw c.as_slice.ensures at c.in_ok-locals-in-Some.ensures) (rw c.as_slice-in-Some.ensures at c.steps.ensures)

pub for_turns-returns-in_err-turn : goal.for_turns-returns-in_err-turn
for_turns-returns-in_err-turn g t c =
    let below : (to_z w128 c.loop-next.next-bits) <ℤ (to_z w128 (of_z w128 c.args.last)) = grind (arith, ints) in
    let more = turns_more (to_z w128 c.loop-next.next-bits) (to_z w128 (of_z w128 c.args.last)) below in
    err_follows g.K.Sink.puts g.K.Sink.state _ _ _ _ _ _ _ c.from_residual.ensures
    (same_ends g.K.Sink.puts g.K.Sink.state (λ n. calls_of n c.args.procedures.now) c.args.slot c.args.line c.args.body.now _ _ _ _ _ _ _ _ _ (to_z-of_z w128 c.args.first c.ranges.first) (to_z-of_z w128 c.args.last c.ranges.last)
    (c.loop-next.invariant c.turn.new.self (Err c.in_err-turn.field-0.0) c.loop-next.sink
    (turn_stops g.K.Sink.puts g.K.Sink.state (λ n. calls_of n c.args.procedures.now) c.args.slot (to_z w128 c.loop-next.next-bits) (to_z w128 (of_z w128 c.args.last)) c.args.line c.args.body.now (turns_of ((to_z w128 c.loop-next.next-bits) +ℤ pos 1) (to_z w128 (of_z w128 c.args.last))) more c.loop-next.self c.loop-next.sink _ _ c.in_err-turn.ensures)))

pub for_turns-returns-in_err-steps : goal.for_turns-returns-in_err-steps
for_turns-returns-in_err-steps g t c =
    let below : (to_z w128 c.loop-next.next-bits) <ℤ (to_z w128 (of_z w128 c.args.last)) = grind (arith, ints) in
    let more = turns_more (to_z w128 c.loop-next.next-bits) (to_z w128 (of_z w128 c.args.last)) below in
    err_follows g.K.Sink.puts g.K.Sink.state _ _ _ _ _ _ _ c.from_residual-in_err-steps.ensures
    (same_ends g.K.Sink.puts g.K.Sink.state (λ n. calls_of n c.args.procedures.now) c.args.slot c.args.line c.args.body.now _ _ _ _ _ _ _ _ _ (to_z-of_z w128 c.args.first c.ranges.first) (to_z-of_z w128 c.args.last c.ranges.last)
    (c.loop-next.invariant c.steps.new.self (Err c.in_err-steps.field-0.0) c.steps.new.sink
    (body_stops g.K.Sink.puts g.K.Sink.state (λ n. calls_of n c.args.procedures.now) c.args.slot (to_z w128 c.loop-next.next-bits) (to_z w128 (of_z w128 c.args.last)) c.args.line c.args.body.now (turns_of ((to_z w128 c.loop-next.next-bits) +ℤ pos 1) (to_z w128 (of_z w128 c.args.last))) more c.loop-next.self c.loop-next.sink _ _ c.in_ok-turn.ensures _ _ _ c.in_err-steps.ensures)))

pub for_turns-loop-next-smaller : goal.for_turns-loop-next-smaller
for_turns-loop-next-smaller g t c =
    gap_up w128 (to_z w128 c.loop-next.next-bits) (to_z w128 (of_z w128 c.args.last)) c.loop-next-test.true (read_sfits w128 _) (read_sfits w128 _)

pub for_turns-loop-next-preserved : goal.for_turns-loop-next-preserved
for_turns-loop-next-preserved g t c =
    let below : (to_z w128 c.loop-next.next-bits) <ℤ (to_z w128 (of_z w128 c.args.last)) = grind (arith, ints) in
    let more = turns_more (to_z w128 c.loop-next.next-bits) (to_z w128 (of_z w128 c.args.last)) below in
    let fits = up_fits w128 (to_z w128 c.loop-next.next-bits) (to_z w128 (of_z w128 c.args.last)) c.loop-next-test.true (read_sfits w128 _) (read_sfits w128 _) in
    λ u o new f. c.loop-next.invariant u o new
    (turn_goes g.K.Sink.puts g.K.Sink.state (λ n. calls_of n c.args.procedures.now) c.args.slot (to_z w128 c.loop-next.next-bits) (to_z w128 (of_z w128 c.args.last)) c.args.line c.args.body.now (turns_of ((to_z w128 c.loop-next.next-bits) +ℤ pos 1) (to_z w128 (of_z w128 c.args.last))) more c.loop-next.self c.loop-next.sink _ _ c.in_ok-turn.ensures _ _ _ _ _ _ c.in_ok-steps.ensures
    (subst (λ x. Follows g.K.Sink.puts g.K.Sink.state (λ n. for_turns n (turns_of x (to_z w128 (of_z w128 c.args.last))) x c.args.slot c.args.line (steps_of n c.args.body.now) (calls_of n c.args.procedures.now) (state_of c.steps.new.self)) c.steps.new.self c.steps.new.sink o u new)
    (to_z-of_z w128 ((to_z w128 c.loop-next.next-bits) +ℤ pos 1) fits) f))

pub for_turns-returns-in_err-turn-2 : goal.for_turns-returns-in_err-turn-2
for_turns-returns-in_err-turn-2 g t c =
    let more = turns_last (to_z w128 c.loop-next.next-bits) (to_z w128 (of_z w128 c.args.last)) (ap (to_z w128) c.if-next-last.true) in
    err_follows g.K.Sink.puts g.K.Sink.state _ _ _ _ _ _ _ c.from_residual-in_err-turn-2.ensures
    (same_ends g.K.Sink.puts g.K.Sink.state (λ n. calls_of n c.args.procedures.now) c.args.slot c.args.line c.args.body.now _ _ _ _ _ _ _ _ _ (to_z-of_z w128 c.args.first c.ranges.first) (to_z-of_z w128 c.args.last c.ranges.last)
    (c.loop-next.invariant c.turn-then-next-last.new.self (Err c.in_err-turn-2.field-0.0) c.loop-next.sink
    (turn_stops g.K.Sink.puts g.K.Sink.state (λ n. calls_of n c.args.procedures.now) c.args.slot (to_z w128 c.loop-next.next-bits) (to_z w128 (of_z w128 c.args.last)) c.args.line c.args.body.now 0 more c.loop-next.self c.loop-next.sink _ _ c.in_err-turn-2.ensures)))

pub for_turns-returns-in_err-steps-2 : goal.for_turns-returns-in_err-steps-2
for_turns-returns-in_err-steps-2 g t c =
    let more = turns_last (to_z w128 c.loop-next.next-bits) (to_z w128 (of_z w128 c.args.last)) (ap (to_z w128) c.if-next-last.true) in
    err_follows g.K.Sink.puts g.K.Sink.state _ _ _ _ _ _ _ c.from_residual-in_err-steps-2.ensures
    (same_ends g.K.Sink.puts g.K.Sink.state (λ n. calls_of n c.args.procedures.now) c.args.slot c.args.line c.args.body.now _ _ _ _ _ _ _ _ _ (to_z-of_z w128 c.args.first c.ranges.first) (to_z-of_z w128 c.args.last c.ranges.last)
    (c.loop-next.invariant c.steps-then-next-last.new.self (Err c.in_err-steps-2.field-0.0) c.steps-then-next-last.new.sink
    (body_stops g.K.Sink.puts g.K.Sink.state (λ n. calls_of n c.args.procedures.now) c.args.slot (to_z w128 c.loop-next.next-bits) (to_z w128 (of_z w128 c.args.last)) c.args.line c.args.body.now 0 more c.loop-next.self c.loop-next.sink _ _ c.in_ok-turn-2.ensures _ _ _ c.in_err-steps-2.ensures)))

pub for_turns-returns-in_ok-steps-2 : goal.for_turns-returns-in_ok-steps-2
for_turns-returns-in_ok-steps-2 g t c =
    let more = turns_last (to_z w128 c.loop-next.next-bits) (to_z w128 (of_z w128 c.args.last)) (ap (to_z w128) c.if-next-last.true) in
    same_ends g.K.Sink.puts g.K.Sink.state (λ n. calls_of n c.args.procedures.now) c.args.slot c.args.line c.args.body.now _ _ _ _ _ _ _ _ _ (to_z-of_z w128 c.args.first c.ranges.first) (to_z-of_z w128 c.args.last c.ranges.last)
    (c.loop-next.invariant c.steps-then-next-last.new.self (Ok tt) c.steps-then-next-last.new.sink
    (turn_goes g.K.Sink.puts g.K.Sink.state (λ n. calls_of n c.args.procedures.now) c.args.slot (to_z w128 c.loop-next.next-bits) (to_z w128 (of_z w128 c.args.last)) c.args.line c.args.body.now 0 more c.loop-next.self c.loop-next.sink _ _ c.in_ok-turn-2.ensures _ _ _ _ _ _ c.in_ok-steps-2.ensures
    (turns_done g.K.Sink.puts g.K.Sink.state (λ n. calls_of n c.args.procedures.now) c.args.slot ((to_z w128 c.loop-next.next-bits) +ℤ pos 1) 0 c.args.line c.args.body.now c.steps-then-next-last.new.self c.steps-then-next-last.new.sink tt refl)))

pub for_turns-returns-else-next-last : goal.for_turns-returns-else-next-last
for_turns-returns-else-next-last g t c =
    let fits : SFits w128 c.loop-next.next = search rules in
    let top : SFits w128 c.args.last = c.ranges.last in
    let after : c.args.last <ℤ c.loop-next.next = grind (arith, ints, to_z-of_z) in
    let above : (to_z w128 (of_z w128 c.args.last)) <ℤ (to_z w128 c.loop-next.next-bits) = subst (λ z. z <ℤ (to_z w128 c.loop-next.next-bits)) (sym (to_z-of_z w128 c.args.last top)) (subst (λ z. c.args.last <ℤ z) (sym c.loop-next.next-is) after) in
    same_ends g.K.Sink.puts g.K.Sink.state (λ n. calls_of n c.args.procedures.now) c.args.slot c.args.line c.args.body.now _ _ _ _ _ _ _ _ _ (to_z-of_z w128 c.args.first c.ranges.first) (to_z-of_z w128 c.args.last c.ranges.last)
    (c.loop-next.invariant c.loop-next.self (Ok tt) c.loop-next.sink
    (turns_done g.K.Sink.puts g.K.Sink.state (λ n. calls_of n c.args.procedures.now) c.args.slot (to_z w128 c.loop-next.next-bits) (turns_of (to_z w128 c.loop-next.next-bits) (to_z w128 (of_z w128 c.args.last))) c.args.line c.args.body.now c.loop-next.self c.loop-next.sink tt (turns_none (to_z w128 c.loop-next.next-bits) (to_z w128 (of_z w128 c.args.last)) above)))

pub step-returns-in_err-chosen-in-If : goal.step-returns-in_err-chosen-in-If
step-returns-in_err-chosen-in-If g t c =
    err_follows g.K.Sink.puts g.K.Sink.state _ _ _ _ _ _ _ c.from_residual-in_err-chosen-in-If.ensures
    (test_stops g.K.Sink.puts g.K.Sink.state (λ n. calls_of n c.args.procedures.now) c.args.s.now c.args.self.now c.visit.new.self c.args.sink.now _ c.in_ok-visit.ensures.does c.in-If.test c.in-If.first c.in-If.second c.in-If.is _ _ c.in_err-chosen-in-If.ensures)

pub step-returns-in_err-start-in-For : goal.step-returns-in_err-start-in-For
step-returns-in_err-start-in-For g t c =
    err_follows g.K.Sink.puts g.K.Sink.state _ _ _ _ _ _ _ c.from_residual-in_err-start-in-For.ensures
    (start_stops g.K.Sink.puts g.K.Sink.state (λ n. calls_of n c.args.procedures.now) c.args.s.now c.args.self.now c.visit.new.self c.args.sink.now _ c.in_ok-visit.ensures.does c.in-For.slot c.in-For.first c.in-For.last c.in-For.body c.in-For.line c.in-For.is _ _ c.in_err-start-in-For.ensures.does)

pub step-returns-in_err-end-in-For : goal.step-returns-in_err-end-in-For
step-returns-in_err-end-in-For g t c =
    err_follows g.K.Sink.puts g.K.Sink.state _ _ _ _ _ _ _ c.from_residual-in_err-end-in-For.ensures
    (end_stops g.K.Sink.puts g.K.Sink.state (λ n. calls_of n c.args.procedures.now) c.args.s.now c.args.self.now c.visit.new.self c.args.sink.now _ c.in_ok-visit.ensures.does c.in-For.slot c.in-For.first c.in-For.last c.in-For.body c.in-For.line c.in-For.is _ _ _ _ c.in_ok-start-in-For.ensures.does c.in_err-end-in-For.ensures.does)

pub step-returns-in_err-arguments-in-Call : goal.step-returns-in_err-arguments-in-Call
step-returns-in_err-arguments-in-Call g t c =
    err_follows g.K.Sink.puts g.K.Sink.state _ _ _ _ _ _ _ c.from_residual-in_err-arguments-in-Call.ensures
    (arguments_stop g.K.Sink.puts g.K.Sink.state (λ n. calls_of n c.args.procedures.now) c.args.s.now c.args.self.now c.visit.new.self c.args.sink.now _ c.in_ok-visit.ensures.does c.in-Call.procedure c.in-Call.arguments c.in-Call.line c.in-Call.is _ _ (rw c.as_slice-in-Call.ensures at c.in_err-arguments-in-Call.ensures))

pub step-returns-in-Assign : goal.step-returns-in-Assign
step-returns-in-Assign g t c =
    assign_goes g.K.Sink.puts g.K.Sink.state (λ n. calls_of n c.args.procedures.now) c.args.s.now c.args.self.now c.visit.new.self c.args.sink.now _ c.in_ok-visit.ensures.does c.in-Assign.target c.in-Assign.value c.in-Assign.line _ _ c.in-Assign.is c.assign.ensures

pub step-returns-then-chosen : goal.step-returns-then-chosen
step-returns-then-chosen g t c =
    first_goes g.K.Sink.puts g.K.Sink.state (λ n. calls_of n c.args.procedures.now) c.args.s.now c.args.self.now c.visit.new.self c.args.sink.now _ c.in_ok-visit.ensures.does c.in-If.test c.in-If.first c.in-If.second c.in-If.is _ _ _ _ _ c.if-chosen.true c.in_ok-chosen-in-If.ensures (rw c.as_slice.ensures at c.steps.ensures)

pub step-returns-else-chosen : goal.step-returns-else-chosen
step-returns-else-chosen g t c =
    second_goes g.K.Sink.puts g.K.Sink.state (λ n. calls_of n c.args.procedures.now) c.args.s.now c.args.self.now c.visit.new.self c.args.sink.now _ c.in_ok-visit.ensures.does c.in-If.test c.in-If.first c.in-If.second c.in-If.is _ _ _ _ _ c.if-chosen.false c.in_ok-chosen-in-If.ensures (rw c.as_slice-else-chosen.ensures at c.steps-else-chosen.ensures)

pub step-returns-in_ok-end-in-For : goal.step-returns-in_ok-end-in-For
step-returns-in_ok-end-in-For g t c =
    let a : SFits w128 c.in_ok-start-in-For.start = search rules in
    let b : SFits w128 c.in_ok-end-in-For.end = search rules in
    for_goes g.K.Sink.puts g.K.Sink.state (λ n. calls_of n c.args.procedures.now) c.args.s.now c.args.self.now c.visit.new.self c.args.sink.now _ c.in_ok-visit.ensures.does c.in-For.slot c.in-For.first c.in-For.last c.in-For.body c.in-For.line c.in-For.is _ _ _ _ _ _ _ c.in_ok-start-in-For.ensures.does c.in_ok-end-in-For.ensures.does (simp to_z-of_z at (rw c.as_slice-in-For.ensures at c.for_turns.ensures))

pub step-returns-in-While : goal.step-returns-in-While
step-returns-in-While g t c =
    let limit : SFits w128 c.in-While.limit = search rules in
    let turns = simp (to_z-of_z w128 c.in-While.limit limit) at c.unsigned_abs.ensures.value in
    while_goes g.K.Sink.puts g.K.Sink.state (λ n. calls_of n c.args.procedures.now) c.args.s.now c.args.self.now c.visit.new.self c.args.sink.now _ c.in_ok-visit.ensures.does c.in-While.test c.in-While.limit c.in-While.body c.in-While.line _ _ _ c.in-While.is (rw turns at (rw c.as_slice-in-While.ensures at c.while_turns.ensures))

pub step-returns-in_ok-arguments-in-Call : goal.step-returns-in_ok-arguments-in-Call
step-returns-in_ok-arguments-in-Call g t c =
    call_goes g.K.Sink.puts g.K.Sink.state (λ n. calls_of n c.args.procedures.now) c.args.s.now c.args.self.now c.visit.new.self c.args.sink.now _ c.in_ok-visit.ensures.does c.in-Call.procedure c.in-Call.arguments c.in-Call.line c.in-Call.is _ _ _ _ _ (rw c.as_slice-in-Call.ensures at c.in_ok-arguments-in-Call.ensures) (rw c.len.ensures at c.call.ensures)

pub steps-step-requires : goal.steps-step-requires
steps-step-requires g t c =
    let w : weight c.s-item.result ≤ weights c.args.list.now = one_of c.args.list.now c.loop-s.s-index c.s-item.result c.loop-s-test.true c.s-item.is in
    let d = c.decreases in
    λ κs h. (omega arith, h)

pub steps-returns-in_err-step : goal.steps-returns-in_err-step
steps-returns-in_err-step g t c =
    err_follows g.K.Sink.puts g.K.Sink.state _ _ _ _ _ _ _ c.from_residual.ensures
    (c.loop-s.invariant c.step.new.self (Err c.in_err-step.field-0.0) c.step.new.sink
    (next_stops g.K.Sink.puts g.K.Sink.state (λ n. calls_of n c.args.procedures.now) c.args.list.now c.loop-s.s-index c.s-item.result c.loop-s.self c.step.new.self c.loop-s.sink c.step.new.sink c.loop-s-test.true c.s-item.is _ c.in_err-step.ensures))

pub steps-loop-s-preserved : goal.steps-loop-s-preserved
steps-loop-s-preserved g t c =
    λ u o new f. c.loop-s.invariant u o new (next_goes g.K.Sink.puts g.K.Sink.state (λ n. calls_of n c.args.procedures.now) c.args.list.now c.loop-s.s-index c.s-item.result c.loop-s.self c.step.new.self c.loop-s.sink c.step.new.sink c.loop-s-test.true c.s-item.is u new _ o c.in_ok-step.ensures f)

pub steps-returns : goal.steps-returns
steps-returns g t c =
    c.loop-s.invariant c.loop-s.self (Ok tt) c.loop-s.sink (steps_done g.K.Sink.puts g.K.Sink.state (λ n. calls_of n c.args.procedures.now) c.args.list.now c.loop-s.s-index c.loop-s.self c.loop-s.sink tt (omega arith))

pub while_turns-returns-in_err-tested : goal.while_turns-returns-in_err-tested
while_turns-returns-in_err-tested g t c =
    err_follows g.K.Sink.puts g.K.Sink.state _ _ _ _ _ _ _ c.from_residual.ensures
    (c.loop-turns.invariant c.tested.new.self (Err c.in_err-tested.field-0.0) c.loop-turns.sink
    (while_test_stops g.K.Sink.puts g.K.Sink.state (λ n. calls_of n c.args.procedures.now) c.args.test.now c.args.line c.args.body.now c.loop-turns.self c.loop-turns.sink c.loop-turns.turns _ _ c.in_err-tested.ensures))

pub while_turns-returns-then-turns-eq0 : goal.while_turns-returns-then-turns-eq0
while_turns-returns-then-turns-eq0 g t c =
    c.loop-turns.invariant c.tested.new.self _ c.loop-turns.sink
    (while_traps g.K.Sink.puts g.K.Sink.state (λ n. calls_of n c.args.procedures.now) c.args.test.now c.args.line c.args.body.now c.loop-turns.self c.loop-turns.sink c.tested.new.self _ c.in_ok-tested.ensures c.loop-turns.turns c.if-turns-eq0.true c.if-branch.true)

pub while_turns-returns-in_err-visit : goal.while_turns-returns-in_err-visit
while_turns-returns-in_err-visit g t c =
    let more : c.loop-turns.turns ≡ suc (c.loop-turns.turns - 1) = omega arith in
    err_follows g.K.Sink.puts g.K.Sink.state _ _ _ _ _ _ _ c.from_residual-in_err-visit.ensures
    (c.loop-turns.invariant c.visit.new.self (Err c.in_err-visit.field-0.0) c.loop-turns.sink
    (while_visit_stops g.K.Sink.puts g.K.Sink.state (λ n. calls_of n c.args.procedures.now) c.args.test.now c.args.line c.args.body.now c.loop-turns.self c.loop-turns.sink c.tested.new.self _ c.in_ok-tested.ensures c.loop-turns.turns (c.loop-turns.turns - 1) more c.if-branch.true _ _ c.in_err-visit.ensures.does))

pub while_turns-loop-turns-preserved : goal.while_turns-loop-turns-preserved
while_turns-loop-turns-preserved g t c =
    let more : c.loop-turns.turns ≡ suc (c.loop-turns.turns - 1) = omega arith in
    λ u o new f. c.loop-turns.invariant u o new (while_goes_on g.K.Sink.puts g.K.Sink.state (λ n. calls_of n c.args.procedures.now) c.args.test.now c.args.line c.args.body.now c.loop-turns.self c.loop-turns.sink c.tested.new.self _ c.in_ok-tested.ensures c.loop-turns.turns (c.loop-turns.turns - 1) more c.if-branch.true _ _ c.in_ok-visit.ensures.does _ _ _ _ _ _ c.in_ok-steps.ensures f)

pub while_turns-returns-in_err-steps : goal.while_turns-returns-in_err-steps
while_turns-returns-in_err-steps g t c =
    let more : c.loop-turns.turns ≡ suc (c.loop-turns.turns - 1) = omega arith in
    err_follows g.K.Sink.puts g.K.Sink.state _ _ _ _ _ _ _ c.from_residual-in_err-steps.ensures
    (c.loop-turns.invariant c.steps.new.self (Err c.in_err-steps.field-0.0) c.steps.new.sink
    (while_body_stops g.K.Sink.puts g.K.Sink.state (λ n. calls_of n c.args.procedures.now) c.args.test.now c.args.line c.args.body.now c.loop-turns.self c.loop-turns.sink c.tested.new.self _ c.in_ok-tested.ensures c.loop-turns.turns (c.loop-turns.turns - 1) more c.if-branch.true _ _ c.in_ok-visit.ensures.does _ _ _ c.in_err-steps.ensures))

pub while_turns-returns : goal.while_turns-returns
while_turns-returns g t c =
    c.loop-turns.invariant c.tested.new.self (Ok tt) c.loop-turns.sink
    (while_ends g.K.Sink.puts g.K.Sink.state (λ n. calls_of n c.args.procedures.now) c.args.test.now c.args.line c.args.body.now c.loop-turns.self c.loop-turns.sink c.tested.new.self _ c.in_ok-tested.ensures c.loop-turns.turns tt c.if-branch.false)
