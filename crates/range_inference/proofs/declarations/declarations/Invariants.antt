use Rattle.std.proofs.Common.{[], take}
use Rattle.source_tree.specs.Scope.{with_all_declared}
use Rattle.range_inference.specs.Demands.{declarations_demands}
use Rattle.range_inference.specs.Outcome.{IsPassed}
use Rattle.range_inference.specs.Table.{HasRanges}
use Rattle.range_inference.proofs.declarations.declarations.Given as goal

abbrev pub invariant-loop-d : goal.invariant-loop-d
invariant-loop-d l = record {
  passed : IsPassed l.bound.value (declarations_demands 0 (take l.d-index l.d-items) []) l.initial.intervals l.intervals;
  ranges : HasRanges l.table (with_all_declared 0 (take l.d-index l.d-items) []);
}
