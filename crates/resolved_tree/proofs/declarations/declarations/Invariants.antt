use Rattle.resolved_tree.proofs.WalkLemmas.{HasWalked}
use Rattle.resolved_tree.proofs.declarations.declarations.Given as goal

abbrev pub invariant-loop-d : goal.invariant-loop-d
invariant-loop-d l = HasWalked l.list l.d-index l.initial.slots l.slots l.initial.procedures l.procedures l.initial.table l.table
