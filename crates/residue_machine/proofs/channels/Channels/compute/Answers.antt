use Rattle.std.proofs.Common.{None}
use Rattle.moduli_sets.specs.Set.{radius}
use Rattle.machine_table.specs.Control.{next}
use Rattle.micro_plan.specs.ActTree.{go_on}
use Rattle.residue_machine.specs.declared.outcome.Outcome.TheVariants.{Next}
use Rattle.residue_machine.proofs.ActLemmas.{comes-issue, comes-next}
use Rattle.residue_machine.proofs.channels.Channels.compute.Goals as goal

pub returns-clause-issued : goal.returns-clause-issued
returns-clause-issued g c = c.issue.ensures.issued

pub returns-clause-comes : goal.returns-clause-comes
returns-clause-comes g c = λ control.
    comes-issue g.R.Rack radius None c.args.op (go_on (next control)) control c.args.self.now c.issue.new.self c.issue.new.self Next c.issue.ensures
    (comes-next g.R.Rack radius None control c.issue.new.self)
