use Rattle.resolved_tree.proofs.VariableLemmas.{HasDeclared}
use Rattle.resolved_tree.proofs.declarations.variables.Given as goal

abbrev pub invariant-loop-v : goal.invariant-loop-v
invariant-loop-v g l = HasDeclared g.V.Variable.name_of g.V.Variable.range_of l.list l.v-index l.initial.slots l.slots l.initial.table l.table
