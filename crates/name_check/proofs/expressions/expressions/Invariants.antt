use Rattle.name_check.specs.Names.{expr_faults}
use Rattle.name_check.specs.Ties.{expr_ties}
use Rattle.name_check.proofs.WalkLemmas.{HasWalked}
use Rattle.name_check.proofs.expressions.expressions.Given as goal

abbrev pub invariant-loop-e : goal.invariant-loop-e
invariant-loop-e l = HasWalked (λ e. expr_faults e l.symbols) (λ e. expr_ties e l.symbols) l.e-items l.e-index l.initial.ties l.ties
