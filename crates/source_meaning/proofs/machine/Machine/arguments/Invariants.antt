use Rattle.std.proofs.Common.{◌≡◌, ◌+◌, ℤ, List, take, drop, Result}
use Rattle.resolved_tree.specs.Meaning.{argument_values}
use Rattle.source_meaning.specs.declared.machine.Machine.{Machine}
use Rattle.source_meaning.specs.declared.machine.Stop.{Stop}
use Rattle.source_meaning.specs.Follows.{state_of, Computes}
use Rattle.source_meaning.proofs.ArgumentForms.{after_those}
use Rattle.source_meaning.proofs.machine.Machine.arguments.Given as goal

-- what the rest does is what the whole does, with the values that are held before those of the rest
abbrev pub invariant-loop-argument : goal.invariant-loop-argument
invariant-loop-argument l = record {
  place : l.at ≡ l.fn.first + l.argument-index;
  goes : (o : Result (List ℤ) Stop) (u : Machine) → Computes (λ n. argument_values n l.at (drop l.argument-index l.arguments) l.line (state_of l.self)) l.self o u
      → Computes (λ n. argument_values n l.fn.first l.arguments l.line (state_of l.initial.self)) l.initial.self (after_those (take l.argument-index (drop l.fn.first l.self.held)) o) u;
}
