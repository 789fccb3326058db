use Rattle.name_check.proofs.RestLemmas.{HasPassed}
use Rattle.name_check.proofs.checker.walk.Given as goal

abbrev pub invariant-loop-d : goal.invariant-loop-d
invariant-loop-d l = HasPassed l.declarations l.statements l.d-index l.number l.procedures l.symbols l.initial.ties l.ties
