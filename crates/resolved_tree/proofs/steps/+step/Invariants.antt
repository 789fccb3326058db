use Rattle.std.proofs.Common.{◌≡◌, take}
use Rattle.resolved_tree.specs.Resolution.{resolved_statements}
use Rattle.name_check.specs.Held.{scope_in}
use Rattle.resolved_tree.proofs.steps.+step.Given as goal

abbrev pub invariant-steps-loop-s : goal.invariant-steps-loop-s
invariant-steps-loop-s l = l.found ≡ resolved_statements (take l.s-index l.list) (scope_in l.table)
