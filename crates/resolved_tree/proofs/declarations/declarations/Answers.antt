use Rattle.resolved_tree.proofs.WalkLemmas.{walked_first, walked_next, walked_slots, walked_procedures, walked_names}
use Rattle.resolved_tree.proofs.declarations.declarations.Goals as goal

pub loop-d-init : goal.loop-d-init
loop-d-init c = walked_first c.args.list.now c.args.slots.now c.args.procedures.now c.args.table.now

pub loop-d-preserved : goal.loop-d-preserved
loop-d-preserved c =
    let l = c.loop-d in
    walked_next c.args.list.now l.d-index c.args.slots.now l.slots c.args.procedures.now l.procedures c.args.table.now l.table l.invariant
    c.d-item.result c.declaration.new.slots c.declaration.new.procedures c.declaration.new.table c.loop-d-test.true c.d-item.is
    c.in_ok-declaration.ensures.slots c.in_ok-declaration.ensures.procedures c.in_ok-declaration.ensures.names

pub returns-clause-slots : goal.returns-clause-slots
returns-clause-slots c =
    let l = c.loop-d in
    walked_slots c.args.list.now l.d-index c.args.slots.now l.slots c.args.procedures.now l.procedures c.args.table.now l.table l.invariant c.loop-d-test.false

pub returns-clause-procedures : goal.returns-clause-procedures
returns-clause-procedures c =
    let l = c.loop-d in
    walked_procedures c.args.list.now l.d-index c.args.slots.now l.slots c.args.procedures.now l.procedures c.args.table.now l.table l.invariant c.loop-d-test.false

pub returns-clause-names : goal.returns-clause-names
returns-clause-names c =
    let l = c.loop-d in
    walked_names c.args.list.now l.d-index c.args.slots.now l.slots c.args.procedures.now l.procedures c.args.table.now l.table l.invariant c.loop-d-test.false
