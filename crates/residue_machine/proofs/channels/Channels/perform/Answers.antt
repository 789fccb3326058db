use Rattle.std.proofs.Common.{[], length, sym, subst, None}
use Rattle.moduli_sets.specs.Set.{radius}
use Rattle.channel_lane.specs.Meaning.{CanPerform}
use Rattle.machine_table.specs.Control.{control_at_start}
use Rattle.machine_table.specs.Faults.{shape_of}
use Rattle.micro_plan.specs.ActTree.{Acts, AllOperations}
use Rattle.micro_plan.proofs.PerformLemmas.{instruction-can}
use Rattle.residue_machine.specs.Outcomes.{ComesTo, manner_of}
use Rattle.residue_machine.proofs.OperandLemmas.{shows_left}
use Rattle.residue_machine.proofs.channels.Channels.perform.Goals as goal

pub compute-requires-clause-can : goal.compute-requires-clause-can
compute-requires-clause-can g c =
    let b = c.args.self.now in
    let control = control_at_start [] in
    (subst (λ (a : Acts). AllOperations (CanPerform (length b.start) (length b.set.moduli)) a) (c.in-Some.ensures.1 b.set control)
    (instruction-can (shape_of b.set b.code b.start) c.args.instr.now control c.rules.ensures.set c.requires.sound)).0

pub perform_shown-requires-clause-own : goal.perform_shown-requires-clause-own
perform_shown-requires-clause-own g c = shows_left (manner_of c.args.instr.now) c.in-None.ensures c.requires.own

pub returns-in-Some-clause-comes : goal.returns-in-Some-clause-comes
returns-in-Some-clause-comes g c = λ control.
    subst (λ (a : Acts). ComesTo g.R.Rack radius None a control c.args.self.now c.compute.result c.compute.new.self) (sym (c.in-Some.ensures.1 c.args.self.now.set control)) (c.compute.ensures.comes control)
