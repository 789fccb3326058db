use Rattle.resolved_tree.proofs.ProcedureLemmas.{whole_resolved}
use Rattle.resolved_tree.proofs.resolver.resolve.Goals as goal

pub returns : goal.returns
returns c =
    let d = c.in_ok-declarations.ensures in
    whole_resolved c.args.program.now c.new-table.result c.declarations.new.table c.new-slots.result c.declarations.new.slots c.new-procedures.result c.declarations.new.procedures c.in_ok-steps.steps
    c.as_slice.result.now c.as_slice-2.result.now c.new-table.ensures c.new-slots.ensures c.new-procedures.ensures c.as_slice.ensures c.as_slice-2.ensures
    d.slots d.procedures d.names c.in_ok-steps.ensures
