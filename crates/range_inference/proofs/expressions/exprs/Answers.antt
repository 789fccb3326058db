use Rattle.std.proofs.Common.{subst, arith}
use Rattle.std.specs.List.{flat_map}
use Rattle.source_tree.specs.declared.expression.Expr.{Expr}
use Rattle.range_inference.specs.Demands.{expr_demands, wide_lines}
use Rattle.range_inference.specs.Outcome.{IsFirst}
use Rattle.range_inference.specs.Table.{range_in}
use Rattle.range_inference.proofs.Judging.{reports, member_stops, member_passed, all_passed}
use Rattle.range_inference.proofs.expressions.exprs.Goals as goal

pub returns-in_err-judge : goal.returns-in_err-judge
returns-in_err-judge c =
    let b = c.args.bound.value in
    let f = λ (e : Expr). expr_demands e (range_in c.args.table.now) in
    let fault = c.in_err-judge.field-0.0 in
    reports b _ c.args.intervals.now c.judge.new.intervals fault c.from_residual.result c.from_residual.ensures.1
    (subst (λ l. IsFirst (wide_lines b (flat_map f l)) fault) c.as_slice-e-items.ensures
    (member_stops b f c.as_slice-e-items.result.now c.e-item.result c.loop-e.e-index fault c.loop-e-test.true c.e-item.is c.loop-e.invariant.0 c.in_err-judge.ensures))

pub loop-e-preserved : goal.loop-e-preserved
loop-e-preserved c =
    member_passed c.args.bound.value (λ (e : Expr). expr_demands e (range_in c.args.table.now)) c.as_slice-e-items.result.now c.e-item.result c.loop-e.e-index
    c.args.intervals.now c.loop-e.intervals c.judge.new.intervals c.loop-e-test.true c.e-item.is c.loop-e.invariant c.in_ok-judge.ensures

pub returns : goal.returns
returns c =
    all_passed c.args.bound.value (λ (e : Expr). expr_demands e (range_in c.args.table.now)) c.as_slice-e-items.result.now c.args.expressions.now c.loop-e.e-index
    c.args.intervals.now c.loop-e.intervals (omega arith) c.as_slice-e-items.ensures c.loop-e.invariant
