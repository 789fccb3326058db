use Rattle.std.proofs.Common.{rules, ◌≡◌, refl, sym, subst, arith, Ok, Err, append-nil}
use Rattle.std.specs.List.{flat_map}
use Rattle.source_tree.specs.declared.statement.Statement.{Statement}
use Rattle.range_inference.specs.Demands.{limit, statement_demands, wide_lines}
use Rattle.range_inference.specs.Interval.{from_to}
use Rattle.range_inference.specs.Outcome.{IsFirst}
use Rattle.range_inference.specs.Table.{range_in}
use Rattle.range_inference.proofs.Judging.{parted_first, reports, stops, stops_next, walks_on, walks_third, required, member_stops, member_passed, all_passed}
use Rattle.range_inference.proofs.NodeDemands.{assign_parts, if_parts, for_parts, while_parts}
use Rattle.range_inference.proofs.statements.+statement.Goals as goal

pub statement-returns-in_err-place-in-Assign : goal.statement-returns-in_err-place-in-Assign
statement-returns-in_err-place-in-Assign t c =
    let b = c.args.bound.value in
    let a = c.in-Assign in
    let parts = assign_parts (range_in c.args.table.now) c.args.s.now a.target a.value a.line a.is in
    let fault = c.in_err-place-in-Assign.field-0.0 in
    reports b _ c.args.intervals.now c.place.new.intervals fault c.from_residual.result c.from_residual.ensures.1
    (stops b parts fault c.in_err-place-in-Assign.ensures)

pub statement-returns-in_ok-place-in-Assign : goal.statement-returns-in_ok-place-in-Assign
statement-returns-in_ok-place-in-Assign t c =
    let a = c.in-Assign in
    let parts = assign_parts (range_in c.args.table.now) c.args.s.now a.target a.value a.line a.is in
    walks_on c.args.bound.value parts c.args.intervals.now c.place.new.intervals c.judge.new.intervals c.judge.result c.in_ok-place-in-Assign.ensures c.judge.ensures

pub statement-returns-in_err-condition-in-If : goal.statement-returns-in_err-condition-in-If
statement-returns-in_err-condition-in-If t c =
    let b = c.args.bound.value in
    let a = c.in-If in
    let parts = if_parts (range_in c.args.table.now) c.args.s.now a.test a.first a.second a.line a.is in
    let fault = c.in_err-condition-in-If.field-0.0 in
    reports b _ c.args.intervals.now c.condition.new.intervals fault c.from_residual-in_err-condition-in-If.result c.from_residual-in_err-condition-in-If.ensures.1
    (stops b (parted_first parts) fault c.in_err-condition-in-If.ensures)

pub statement-returns-in_err-statements-in-If : goal.statement-returns-in_err-statements-in-If
statement-returns-in_err-statements-in-If t c =
    let b = c.args.bound.value in
    let a = c.in-If in
    let parts = if_parts (range_in c.args.table.now) c.args.s.now a.test a.first a.second a.line a.is in
    let fault = c.in_err-statements-in-If.field-0.0 in
    reports b _ c.args.intervals.now c.statements.new.intervals fault c.from_residual-in_err-statements-in-If.result c.from_residual-in_err-statements-in-If.ensures.1
    (stops_next b parts fault c.in_ok-condition-in-If.ensures.0 c.in_err-statements-in-If.ensures)

pub statement-returns-in_ok-statements-in-If : goal.statement-returns-in_ok-statements-in-If
statement-returns-in_ok-statements-in-If t c =
    let a = c.in-If in
    let parts = if_parts (range_in c.args.table.now) c.args.s.now a.test a.first a.second a.line a.is in
    walks_third c.args.bound.value parts c.args.intervals.now c.condition.new.intervals c.statements.new.intervals c.statements-in-If.new.intervals c.statements-in-If.result
    c.in_ok-condition-in-If.ensures c.in_ok-statements-in-If.ensures c.statements-in-If.ensures

pub statement-returns-in_err-judge-in-For : goal.statement-returns-in_err-judge-in-For
statement-returns-in_err-judge-in-For t c =
    let b = c.args.bound.value in
    let a = c.in-For in
    let parts = for_parts (range_in c.args.table.now) c.args.s.now a.name a.first a.last a.body a.line a.is in
    let fault = c.in_err-judge-in-For.field-0.0 in
    reports b _ c.args.intervals.now c.judge-in-For.new.intervals fault c.from_residual-in_err-judge-in-For.result c.from_residual-in_err-judge-in-For.ensures.1
    (stops b (parted_first parts) fault c.in_err-judge-in-For.ensures)

pub statement-returns-in_err-judge-in-For-2 : goal.statement-returns-in_err-judge-in-For-2
statement-returns-in_err-judge-in-For-2 t c =
    let b = c.args.bound.value in
    let a = c.in-For in
    let parts = for_parts (range_in c.args.table.now) c.args.s.now a.name a.first a.last a.body a.line a.is in
    let fault = c.in_err-judge-in-For-2.field-0.0 in
    reports b _ c.args.intervals.now c.judge-in-For-2.new.intervals fault c.from_residual-in_err-judge-in-For-2.result c.from_residual-in_err-judge-in-For-2.ensures.1
    (stops_next b parts fault c.in_ok-judge-in-For.ensures.0 c.in_err-judge-in-For-2.ensures)

pub statement-returns-in_ok-judge-in-For-2 : goal.statement-returns-in_ok-judge-in-For-2
statement-returns-in_ok-judge-in-For-2 t c =
    let a = c.in-For in
    let parts = for_parts (range_in c.args.table.now) c.args.s.now a.name a.first a.last a.body a.line a.is in
    walks_third c.args.bound.value parts c.args.intervals.now c.judge-in-For.new.intervals c.judge-in-For-2.new.intervals c.statements-in-For.new.intervals c.statements-in-For.result
    c.in_ok-judge-in-For.ensures c.in_ok-judge-in-For-2.ensures c.statements-in-For.ensures

pub statement-returns-in_err-condition-in-While : goal.statement-returns-in_err-condition-in-While
statement-returns-in_err-condition-in-While t c =
    let b = c.args.bound.value in
    let a = c.in-While in
    let parts = while_parts (range_in c.args.table.now) c.args.s.now a.test a.limit a.body a.line a.is in
    let fault = c.in_err-condition-in-While.field-0.0 in
    reports b _ c.args.intervals.now c.condition-in-While.new.intervals fault c.from_residual-in_err-condition-in-While.result c.from_residual-in_err-condition-in-While.ensures.1
    (stops b (parted_first parts) fault c.in_err-condition-in-While.ensures)

pub statement-returns-in_err-require-in-While : goal.statement-returns-in_err-require-in-While
statement-returns-in_err-require-in-While t c =
    let b = c.args.bound.value in
    let a = c.in-While in
    let parts = while_parts (range_in c.args.table.now) c.args.s.now a.test a.limit a.body a.line a.is in
    let turns : c.one.result ≡ from_to a.limit a.limit = search rules in
    let fault = c.in_err-require-in-While.field-0.0 in
    reports b _ c.args.intervals.now c.condition-in-While.new.intervals fault c.from_residual-in_err-require-in-While.result c.from_residual-in_err-require-in-While.ensures.1
    (stops_next b parts fault c.in_ok-condition-in-While.ensures.0 (required b (limit a.limit a.line) c.one.result a.line (Err fault) turns refl c.in_err-require-in-While.ensures))

pub statement-returns-in_ok-require-in-While : goal.statement-returns-in_ok-require-in-While
statement-returns-in_ok-require-in-While t c =
    let a = c.in-While in
    let parts = while_parts (range_in c.args.table.now) c.args.s.now a.test a.limit a.body a.line a.is in
    let turns : c.one.result ≡ from_to a.limit a.limit = search rules in
    walks_third c.args.bound.value parts c.args.intervals.now c.condition-in-While.new.intervals c.condition-in-While.new.intervals c.statements-in-While.new.intervals c.statements-in-While.result
    c.in_ok-condition-in-While.ensures
    (required c.args.bound.value (limit a.limit a.line) c.one.result a.line (Ok c.in_ok-require-in-While.field-0) turns refl c.in_ok-require-in-While.ensures, sym (append-nil c.condition-in-While.new.intervals))
    c.statements-in-While.ensures

pub statements-returns-in_err-statement : goal.statements-returns-in_err-statement
statements-returns-in_err-statement t c =
    let b = c.args.bound.value in
    let f = λ (s : Statement). statement_demands s (range_in c.args.table.now) in
    let fault = c.in_err-statement.field-0.0 in
    reports b _ c.args.intervals.now c.statement.new.intervals fault c.from_residual.result c.from_residual.ensures.1
    (subst (λ l. IsFirst (wide_lines b (flat_map f l)) fault) c.as_slice-s-items.ensures
    (member_stops b f c.as_slice-s-items.result.now c.s-item.result c.loop-s.s-index fault c.loop-s-test.true c.s-item.is c.loop-s.invariant.0 c.in_err-statement.ensures))

pub statements-loop-s-preserved : goal.statements-loop-s-preserved
statements-loop-s-preserved t c =
    member_passed c.args.bound.value (λ (s : Statement). statement_demands s (range_in c.args.table.now)) c.as_slice-s-items.result.now c.s-item.result c.loop-s.s-index
    c.args.intervals.now c.loop-s.intervals c.statement.new.intervals c.loop-s-test.true c.s-item.is c.loop-s.invariant c.in_ok-statement.ensures

pub statements-returns : goal.statements-returns
statements-returns t c =
    all_passed c.args.bound.value (λ (s : Statement). statement_demands s (range_in c.args.table.now)) c.as_slice-s-items.result.now c.args.list.now c.loop-s.s-index
    c.args.intervals.now c.loop-s.intervals (omega arith) c.as_slice-s-items.ensures c.loop-s.invariant
