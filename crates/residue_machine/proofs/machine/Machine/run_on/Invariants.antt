use Rattle.std.proofs.Common.{◌≡◌, ◌+◌, ◌-◌, ◌≤◌, ◌^◌, None}
use Rattle.moduli_sets.specs.Set.{radius}
use Rattle.residue_machine.specs.declared.ending.Ending.{Ending}
use Rattle.residue_machine.specs.Machine.{MachineState, RunsOut}
use Rattle.residue_machine.proofs.machine.Machine.run_on.Given as goal

-- a run of the instructions that are left is a run of all
abbrev pub invariant-turns : goal.invariant-turns
invariant-turns g l = record {
  fresh : l.fn.self.ended ≡ None;
  on : l.self.ended ≡ None;
  taken : l.self.taken + (l.steps - l._done) ≤ 10 ^ 12;
  whole : (e : Ending) (new : MachineState g.row.R.Denot g.row.D.Denot) (after : g.row.K.Denot)
      → RunsOut g.R.Rack radius None g.R.Rack.IsUnderWay g.K.Sink.puts g.K.Sink.state (l.steps - l._done) l.self l.sink e new after
      → RunsOut g.R.Rack radius None g.R.Rack.IsUnderWay g.K.Sink.puts g.K.Sink.state l.steps l.fn.self l.fn.sink e new after;
}
