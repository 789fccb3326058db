use Rattle.std.proofs.Common.{◌+◌, drop, Result}
use Rattle.std.specs.Prelude.{⊤}
use borrow.Author.Gap.{gap}
use Rattle.source_tree.specs.Statement.{turns_of}
use Rattle.resolved_tree.specs.Meaning.{calls_of, for_turns, steps_of, tested, while_turns}
use Rattle.source_meaning.specs.declared.machine.Machine.{Machine}
use Rattle.source_meaning.specs.declared.machine.Stop.{Stop}
use Rattle.source_meaning.specs.Follows.{state_of, Follows}
use Rattle.source_meaning.proofs.Weights.{weight, weights, procedures_weight}
use Rattle.source_meaning.proofs.machine.Machine.+steps.Given as goal

-- what falls from call to call: the procedures that can still be called, and then the statements that are left
abbrev pub decreases-call : goal.decreases-call
decreases-call g l = procedures_weight l.procedures.now

abbrev pub decreases-step : goal.decreases-step
decreases-step g l = procedures_weight l.procedures.now + weight l.s.now

abbrev pub decreases-steps : goal.decreases-steps
decreases-steps g l = procedures_weight l.procedures.now + weights l.list.now + 1

abbrev pub decreases-for_turns : goal.decreases-for_turns
decreases-for_turns g l = procedures_weight l.procedures.now + weights l.body.now + 2

abbrev pub decreases-while_turns : goal.decreases-while_turns
decreases-while_turns g l = procedures_weight l.procedures.now + weights l.body.now + 2

-- what the rest does is what the whole does
abbrev pub invariant-steps-loop-s : goal.invariant-steps-loop-s
invariant-steps-loop-s g l =
    (u : Machine) (o : Result ⊤ Stop) (new : g.row.K.Denot)
    → Follows g.K.Sink.puts g.K.Sink.state (λ n. steps_of n (drop l.s-index l.list) (calls_of n l.procedures) (state_of l.self)) l.self l.sink o u new
    → Follows g.K.Sink.puts g.K.Sink.state (λ n. steps_of n l.list (calls_of n l.procedures) (state_of l.initial.self)) l.initial.self l.initial.sink o u new

abbrev pub invariant-for_turns-loop-next : goal.invariant-for_turns-loop-next
invariant-for_turns-loop-next g l =
    (u : Machine) (o : Result ⊤ Stop) (new : g.row.K.Denot)
    → Follows g.K.Sink.puts g.K.Sink.state (λ n. for_turns n (turns_of l.next l.last) l.next l.slot l.line (steps_of n l.body) (calls_of n l.procedures) (state_of l.self)) l.self l.sink o u new
    → Follows g.K.Sink.puts g.K.Sink.state (λ n. for_turns n (turns_of l.fn.first l.last) l.fn.first l.slot l.line (steps_of n l.body) (calls_of n l.procedures) (state_of l.initial.self)) l.initial.self l.initial.sink o u new

abbrev pub decreases-for_turns-loop-next : goal.decreases-for_turns-loop-next
decreases-for_turns-loop-next g l = gap l.next l.last

abbrev pub invariant-while_turns-loop-turns : goal.invariant-while_turns-loop-turns
invariant-while_turns-loop-turns g l =
    (u : Machine) (o : Result ⊤ Stop) (new : g.row.K.Denot)
    → Follows g.K.Sink.puts g.K.Sink.state (λ n. while_turns n l.turns (tested l.test) l.line (steps_of n l.body) (calls_of n l.procedures) (state_of l.self)) l.self l.sink o u new
    → Follows g.K.Sink.puts g.K.Sink.state (λ n. while_turns n l.fn.limit (tested l.test) l.line (steps_of n l.body) (calls_of n l.procedures) (state_of l.initial.self)) l.initial.self l.initial.sink o u new

abbrev pub decreases-while_turns-loop-turns : goal.decreases-while_turns-loop-turns
decreases-while_turns-loop-turns g l = l.turns
