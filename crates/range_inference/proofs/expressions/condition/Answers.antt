use Rattle.std.proofs.Common.{refl}
use Rattle.range_inference.specs.Demands.{expr_demands, condition_demands}
use Rattle.range_inference.specs.Interval.{Ranges}
use Rattle.range_inference.specs.Table.{range_in}
use Rattle.source_tree.specs.declared.expression.Condition.{Condition}
use Rattle.range_inference.proofs.Judging.{Two, reports, stops, walks_on}
use Rattle.range_inference.proofs.expressions.condition.Goals as goal

abbrev parts : (condition : Condition) (ranges : Ranges) → Two (condition_demands condition ranges)
parts condition ranges = record { one = expr_demands condition.left ranges; two = expr_demands condition.right ranges; is = refl }

pub returns-in_err-judge : goal.returns-in_err-judge
returns-in_err-judge c =
    let b = c.args.bound.value in
    reports b _ c.args.intervals.now c.judge.new.intervals c.in_err-judge.field-0.0 c.from_residual.result c.from_residual.ensures.1
    (stops b (parts c.args.condition.now (range_in c.args.table.now)) c.in_err-judge.field-0.0 c.in_err-judge.ensures)

pub returns : goal.returns
returns c =
    walks_on c.args.bound.value (parts c.args.condition.now (range_in c.args.table.now)) c.args.intervals.now c.judge.new.intervals c.judge-2.new.intervals c.judge-2.result
    c.in_ok-judge.ensures c.judge-2.ensures
