use Rattle.name_check.specs.Held.{scope_in}
use Rattle.resolved_tree.proofs.ArgumentLemmas.{HasResolved}
use Rattle.resolved_tree.proofs.steps.arguments.Given as goal

abbrev pub invariant-loop-e : goal.invariant-loop-e
invariant-loop-e l = HasResolved l.es l.params (scope_in l.table) l.e-index l.found
