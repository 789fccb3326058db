use Rattle.std.proofs.Common.{length, ap, sym, subst, ◌∙◌, arith}
use Rattle.source_tree.specs.Scope.{with_variables}
use Rattle.name_check.specs.Names.{variables_faults}
use Rattle.name_check.specs.Reported.{IsReported}
use Rattle.name_check.proofs.WalkLemmas.{reported}
use Rattle.name_check.proofs.VariableLemmas.{declared_first, declared_next, declared_stops, declared_faults, declared_scope}
use Rattle.name_check.proofs.declarations.declare_all.Goals as goal

pub loop-v-init : goal.loop-v-init
loop-v-init g c = declared_first g.V.Variable.name_of g.V.Variable.range_of c.as_slice-v-items.result.now c.args.first c.args.symbols.now

pub overflow_add-number : goal.overflow_add-number
overflow_add-number g c = omega (arith, ap length c.as_slice-v-items.ensures)

pub loop-v-preserved : goal.loop-v-preserved
loop-v-preserved g c =
    let l = c.loop-v in
    declared_next g.V.Variable.name_of g.V.Variable.range_of c.as_slice-v-items.result.now l.v-index c.args.first l.number c.args.symbols.now l.symbols c.v-item.result c.loop-v-test.true c.v-item.is
    l.invariant c.name.result.now c.range.result c.name.ensures c.range.ensures c.declare.new.symbols c.in_ok-declare.ensures.first c.in_ok-declare.ensures.declared

pub returns-in_err-declare-clause-first : goal.returns-in_err-declare-clause-first
returns-in_err-declare-clause-first g c =
    let l = c.loop-v in
    let fault = c.in_err-declare.field-0.0 in
    reported _ fault c.from_residual.result c.from_residual.ensures.1
    (subst (λ faults. IsReported faults fault) (ap (λ xs. variables_faults g.V.Variable.name_of g.V.Variable.range_of c.args.first xs c.args.symbols.now) c.as_slice-v-items.ensures)
    (declared_stops g.V.Variable.name_of g.V.Variable.range_of c.as_slice-v-items.result.now l.v-index c.args.first l.number c.args.symbols.now l.symbols c.v-item.result c.loop-v-test.true c.v-item.is
    l.invariant c.name.result.now c.range.result c.name.ensures c.range.ensures fault c.in_err-declare.ensures.first))

pub returns-clause-first : goal.returns-clause-first
returns-clause-first g c =
    let l = c.loop-v in
    ap (λ xs. variables_faults g.V.Variable.name_of g.V.Variable.range_of c.args.first xs c.args.symbols.now) (sym c.as_slice-v-items.ensures)
    ∙ declared_faults g.V.Variable.name_of g.V.Variable.range_of c.as_slice-v-items.result.now l.v-index c.args.first l.number c.args.symbols.now l.symbols c.loop-v-test.false l.invariant

pub returns-clause-scope : goal.returns-clause-scope
returns-clause-scope g c =
    let l = c.loop-v in
    declared_scope g.V.Variable.name_of g.V.Variable.range_of c.as_slice-v-items.result.now l.v-index c.args.first l.number c.args.symbols.now l.symbols c.loop-v-test.false l.invariant
    ∙ ap (λ xs. with_variables g.V.Variable.name_of g.V.Variable.range_of c.args.first xs c.args.symbols.now) c.as_slice-v-items.ensures
