use Rattle.std.proofs.Common.{◌≡◌, Result}
use Rattle.std.specs.Prelude.{⊤}
use Rattle.resolved_tree.specs.Meaning.{put_from}
use Rattle.source_meaning.specs.declared.machine.Machine.{Machine}
use Rattle.source_meaning.specs.declared.machine.Stop.{Stop}
use Rattle.source_meaning.specs.Follows.{state_of, held_from, Computes}
use Rattle.source_meaning.proofs.HeldForms.{left_of}
use Rattle.source_meaning.proofs.machine.Machine.put_held.Given as goal

-- what is held stays, and what the rest does is what the whole does
abbrev pub invariant-loop : goal.invariant-loop
invariant-loop l = record {
  kept : l.self.held ≡ l.initial.self.held;
  goes : (o : Result ⊤ Stop) (u : Machine) → Computes (λ n. put_from n l.at (left_of l.count l.counter l.at l.initial.self.held) (state_of l.self)) l.self o u
      → Computes (λ n. put_from n l.fn.first (held_from l.fn.first l.count l.initial.self) (state_of l.initial.self)) l.initial.self o u;
}
