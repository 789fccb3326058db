use Rattle.std.proofs.Common.{ℕ, List, map, drop}
use Rattle.outside.specs.Sink.{WroteAll}
use Rattle.thin_source.specs.ThinView.{statement_view, program_view}
use Rattle.thin_source.specs.ThinMeaning.{State}
use Rattle.thin_source.proofs.ThinReached.{IsReached}
use Rattle.thin_source.proofs.machine.run.Given as goal

-- the run has reached a state, and what it printed so far was put
abbrev pub invariant-loop-statement : goal.invariant-loop-statement
invariant-loop-statement g l =
    let left = map statement_view (drop l.statement-index l.program.statements.items) in
    (state : State) × (pieces : List (List ℕ)) × IsReached (program_view l.program) left l.variables.items pieces state × WroteAll g.K.Sink.puts g.K.Sink.state l.initial.sink pieces l.sink
