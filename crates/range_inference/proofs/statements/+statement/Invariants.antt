use Rattle.std.proofs.Common.{take}
use Rattle.range_inference.specs.Demands.{statements_demands}
use Rattle.range_inference.specs.Outcome.{IsPassed}
use Rattle.range_inference.specs.Table.{range_in}
use Rattle.range_inference.proofs.statements.+statement.Given as goal

abbrev pub invariant-statements-loop-s : goal.invariant-statements-loop-s
invariant-statements-loop-s l = IsPassed l.bound.value (statements_demands (take l.s-index l.s-items) (range_in l.table)) l.initial.intervals l.intervals
