use Rattle.std.proofs.Common.{drop, Result}
use Rattle.std.specs.Prelude.{⊤}
use Rattle.resolved_tree.specs.Meaning.{locals_set}
use Rattle.source_meaning.specs.declared.machine.Machine.{Machine}
use Rattle.source_meaning.specs.declared.machine.Stop.{Stop}
use Rattle.source_meaning.specs.Follows.{state_of, Computes}
use Rattle.source_meaning.proofs.machine.Machine.locals.Given as goal

-- what the rest does is what the whole does
abbrev pub invariant-loop-start : goal.invariant-loop-start
invariant-loop-start l =
    (o : Result ⊤ Stop) (u : Machine) → Computes (λ n. locals_set n l.at (drop l.start-index l.starts) (state_of l.self)) l.self o u
    → Computes (λ n. locals_set n l.fn.first l.starts (state_of l.initial.self)) l.initial.self o u
