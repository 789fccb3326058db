use Rattle.std.proofs.Common.{◌≡◌}
use Rattle.name_check.specs.Names.{statement_faults}
use Rattle.name_check.specs.Ties.{statement_ties}
use Rattle.name_check.proofs.WalkLemmas.{HasWalked}
use Rattle.name_check.proofs.statements.+statement.Given as goal

abbrev pub invariant-statements-loop-s : goal.invariant-statements-loop-s
invariant-statements-loop-s l = record {
  walked :
      HasWalked (λ s. statement_faults s l.symbols l.initial.loops) (λ s. statement_ties s l.symbols) l.s-items l.s-index l.initial.ties l.ties;
  loops : l.loops ≡ l.initial.loops;
}
