use Rattle.std.proofs.Common.{◌≡◌, ◌+◌, ◌≤◌, length, None}
use Rattle.std.specs.Prelude.{is_some}
use Rattle.moduli_sets.specs.Set.{radius}
use Rattle.moduli_sets.specs.declared.kind.Kind.TheVariants.{Zero}
use Rattle.machine_table.specs.Control.{Control, next, traps}
use Rattle.micro_plan.specs.ActTree.{end_by, go_on}
use Rattle.micro_plan.specs.Stages.{HasPlaces, left_of, most_left, waits}
use Rattle.residue_machine.specs.declared.outcome.Outcome.{Outcome}
use Rattle.residue_machine.specs.Bench.{Bench}
use Rattle.residue_machine.specs.Outcomes.{ComesTo}
use Rattle.residue_machine.proofs.channels.Channels.perform_plan.Given as goal

-- what performs the acts that are left performs the whole
abbrev pub invariant-acts : goal.invariant-acts
invariant-acts g l = record {
  whole : (control : Control) (outcome : Outcome) (last : Bench g.row.R.Denot g.row.D.Denot)
      → ComesTo g.R.Rack radius None (left_of l.plan l.told (end_by (traps Zero l.line)) (go_on (next control))) control l.self outcome last
      → ComesTo g.R.Rack radius None (left_of l.fn.plan None (end_by (traps Zero l.line)) (go_on (next control))) control l.fn.self outcome last;
  waits : is_some l.told ≡ waits l.plan;
  places : HasPlaces (length l.fn.self.set.moduli) l.plan;
  set : l.self.set ≡ l.fn.self.set;
  count : l.self.issued + most_left l.plan ≤ l.fn.self.issued + most_left l.fn.plan;
}

abbrev pub decreases-acts : goal.decreases-acts
decreases-acts g l = most_left l.plan
