use Rattle.std.proofs.Common.{length, subst, All}
use Rattle.moduli_sets.specs.Set.{ModuliSet}
use Rattle.machine_table.specs.Operands.{Shape, IsSoundOperand, operands_of}
use Rattle.micro_plan.specs.Stages.{HasPlaces}
use Rattle.micro_plan.proofs.plan.Plan.begin.Goals as goal

pub returns-clause-places : goal.returns-clause-places
returns-clause-places c =
    subst (λ (set : ModuliSet). (shape : Shape) → All (IsSoundOperand shape) (operands_of c.args.instr.now) → HasPlaces (length set.moduli) c.of-2.result)
    c.of.ensures c.of-2.ensures.places
