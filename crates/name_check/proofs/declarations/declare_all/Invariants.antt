use Rattle.name_check.proofs.VariableLemmas.{HasDeclared}
use Rattle.name_check.proofs.declarations.declare_all.Given as goal

abbrev pub invariant-loop-v : goal.invariant-loop-v
invariant-loop-v g l = HasDeclared g.V.Variable.name_of g.V.Variable.range_of l.v-items l.v-index l.fn.first l.number l.initial.symbols l.symbols
