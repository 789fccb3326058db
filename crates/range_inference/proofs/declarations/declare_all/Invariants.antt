use Rattle.std.proofs.Common.{◌≡◌, ℕ, [], take}
use Rattle.source_tree.specs.Scope.{Scope, with_variables}
use Rattle.range_inference.specs.Demands.{variables_demands, wide_lines}
use Rattle.name_table.specs.Entries.{Extends}
use Rattle.range_inference.specs.Table.{HasRanges}
use Rattle.range_inference.proofs.declarations.declare_all.Given as goal

abbrev pub invariant-loop-v : goal.invariant-loop-v
invariant-loop-v g l = record {
  none : wide_lines l.bound.value (variables_demands g.V.Variable.name_of g.V.Variable.range_of (take l.v-index l.v-items)) ≡ [];
  ranges : (k : ℕ) (scope : Scope) → HasRanges l.initial.table scope
      → HasRanges l.table (with_variables g.V.Variable.name_of g.V.Variable.range_of k (take l.v-index l.v-items) scope);
  others : Extends l.initial.table l.table;
}
