use Rattle.std.proofs.Common.{◌∙◌, subst, None}
use Rattle.moduli_sets.specs.Set.{radius}
use Rattle.moduli_sets.specs.declared.kind.Kind.TheVariants.{Zero}
use Rattle.machine_table.specs.Control.{next, traps}
use Rattle.machine_table.specs.Faults.{shape_of}
use Rattle.micro_plan.specs.ActTree.{Acts, end_by, go_on}
use Rattle.residue_machine.specs.Outcomes.{ComesTo}
use Rattle.residue_machine.proofs.OperandLemmas.{acts-planned}
use Rattle.residue_machine.proofs.channels.Channels.divide.Goals as goal

pub perform_plan-requires-clause-places : goal.perform_plan-requires-clause-places
perform_plan-requires-clause-places g c =
    let b = c.args.self.now in
    c.begin_plan-plan.ensures.places (shape_of b.set b.code b.start) c.requires.sound

pub returns-clause-comes : goal.returns-clause-comes
returns-clause-comes g c = λ control.
    let b = c.args.self.now in
    subst (λ (a : Acts). ComesTo g.R.Rack radius None a control b c.perform_plan.result c.perform_plan.new.self)
    (c.begin_plan-plan.ensures.left (end_by (traps Zero c.args.line)) (go_on (next control)) ∙ acts-planned b.set c.args.instr.now c.args.line control c.requires.planned c.requires.line)
    (c.perform_plan.ensures.comes control)
