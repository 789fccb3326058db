use Rattle.std.proofs.Common.{take}
use Rattle.range_inference.specs.Demands.{exprs_demands}
use Rattle.range_inference.specs.Outcome.{IsPassed}
use Rattle.range_inference.specs.Table.{range_in}
use Rattle.range_inference.proofs.expressions.exprs.Given as goal

abbrev pub invariant-loop-e : goal.invariant-loop-e
invariant-loop-e l = IsPassed l.bound.value (exprs_demands (take l.e-index l.e-items) (range_in l.table)) l.initial.intervals l.intervals
