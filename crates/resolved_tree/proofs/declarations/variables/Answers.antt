use Rattle.resolved_tree.proofs.VariableLemmas.{declared_first, declared_next, declared_slots, declared_names}
use Rattle.resolved_tree.proofs.declarations.variables.Goals as goal

pub loop-v-init : goal.loop-v-init
loop-v-init g c = declared_first g.V.Variable.name_of g.V.Variable.range_of c.args.list.now c.args.slots.now c.args.table.now

pub loop-v-preserved : goal.loop-v-preserved
loop-v-preserved g c =
    let l = c.loop-v in
    declared_next g.V.Variable.name_of g.V.Variable.range_of c.args.list.now l.v-index c.args.slots.now l.slots c.args.table.now l.table l.invariant
    c.v-item.result c.name.result.now c.range.result c.variable.new.slots c.variable.new.table c.loop-v-test.true c.v-item.is c.name.ensures c.range.ensures
    c.in_ok-variable.ensures.slots c.in_ok-variable.ensures.table

pub returns-clause-slots : goal.returns-clause-slots
returns-clause-slots g c =
    let l = c.loop-v in
    declared_slots g.V.Variable.name_of g.V.Variable.range_of c.args.list.now l.v-index c.args.slots.now l.slots c.args.table.now l.table l.invariant c.loop-v-test.false

pub returns-clause-names : goal.returns-clause-names
returns-clause-names g c =
    let l = c.loop-v in
    declared_names g.V.Variable.name_of g.V.Variable.range_of c.args.list.now l.v-index c.args.slots.now l.slots c.args.table.now l.table l.invariant c.loop-v-test.false

pub returns-clause-others : goal.returns-clause-others
returns-clause-others g c = c.loop-v.invariant.others
