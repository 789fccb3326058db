use Rattle.std.proofs.Common.{rules}
use Rattle.range_inference.specs.Bound.{IsSetBound}
use Rattle.range_inference.specs.Interval.{interval_by}
use Rattle.range_inference.proofs.NodeDemands.{wide_by_size, wide_node}
use Rattle.range_inference.proofs.expressions.put_combined.Goals as goal

pub returns-in-None-clause-walk : goal.returns-in-None-clause-walk
returns-in-None-clause-walk c =
    let small : IsSetBound c.args.bound.value = search rules in
    let i = interval_by c.args.operator c.args.a c.args.b in
    wide_node c.args.bound.value i c.args.line (wide_by_size c.args.bound.value i small c.in-None.ensures.none)
