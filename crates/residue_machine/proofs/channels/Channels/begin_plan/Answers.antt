use Rattle.std.proofs.Common.{length, subst, All}
use Rattle.machine_table.specs.Operands.{Shape, IsSoundOperand, operands_of}
use Rattle.micro_plan.specs.Stages.{HasPlaces}
use Rattle.residue_machine.specs.Bench.{Bench}
use Rattle.residue_machine.proofs.channels.Channels.begin_plan.Goals as goal

pub returns-clause-places : goal.returns-clause-places
returns-clause-places g c =
    subst (λ (b : Bench g.row.R.Denot g.row.D.Denot). (shape : Shape) → All (IsSoundOperand shape) (operands_of c.args.instr.now) → HasPlaces (length b.set.moduli) c.of.result)
    c.self.view_is c.of.ensures.places
