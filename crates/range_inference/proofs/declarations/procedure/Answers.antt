use Rattle.std.proofs.Common.{◌+◌, length}
use Rattle.source_tree.specs.Scope.{with_params}
use Rattle.range_inference.proofs.DeclarationLists.{variables_passed, procedure_parts, procedure_parts_in}
use Rattle.range_inference.proofs.Judging.{parted_first, reports, stops, stops_next, passed_third, walks_third}
use Rattle.range_inference.proofs.declarations.procedure.Goals as goal

pub returns-in_err-declare_all-clause-walk : goal.returns-in_err-declare_all-clause-walk
returns-in_err-declare_all-clause-walk c =
    λ k scope h.
    let b = c.args.bound.value in
    let fault = c.in_err-declare_all.field-0.0 in
    reports b _ c.args.intervals.now c.args.intervals.now fault c.from_residual.result c.from_residual.ensures.1
    (stops b (parted_first (procedure_parts k c.args.own.now c.args.inner.now c.args.body.now scope)) fault c.in_err-declare_all.ensures.first)

pub returns-in_err-declare_all-2-clause-walk : goal.returns-in_err-declare_all-2-clause-walk
returns-in_err-declare_all-2-clause-walk c =
    λ k scope h.
    let b = c.args.bound.value in
    let fault = c.in_err-declare_all-2.field-0.0 in
    reports b _ c.args.intervals.now c.args.intervals.now fault c.from_residual-in_err-declare_all-2.result c.from_residual-in_err-declare_all-2.ensures.1
    (stops_next b (procedure_parts k c.args.own.now c.args.inner.now c.args.body.now scope) fault c.in_ok-declare_all.ensures.first c.in_err-declare_all-2.ensures.first)

pub returns-in_err-statements-clause-walk : goal.returns-in_err-statements-clause-walk
returns-in_err-statements-clause-walk c =
    λ k scope h.
    let b = c.args.bound.value in
    let own = c.args.own.now in
    let names = c.in_ok-declare_all-2.ensures.ranges (k + 1 + length own) (with_params (k + 1) own scope) (c.in_ok-declare_all.ensures.ranges (k + 1) scope h) in
    let parts = procedure_parts_in k own c.args.inner.now c.args.body.now scope c.declare_all-2.new.table names in
    let fault = c.in_err-statements.field-0.0 in
    walks_third b parts c.args.intervals.now c.args.intervals.now c.args.intervals.now c.statements.new.intervals c.from_residual-in_err-statements.result
    (variables_passed (λ p. p.name) (λ p. p.range) b own c.args.intervals.now c.in_ok-declare_all.ensures.first)
    (variables_passed (λ l. l.name) (λ l. l.range) b c.args.inner.now c.args.intervals.now c.in_ok-declare_all-2.ensures.first)
    (reports b parts.three c.args.intervals.now c.statements.new.intervals fault c.from_residual-in_err-statements.result c.from_residual-in_err-statements.ensures.1 c.in_err-statements.ensures)

pub returns-clause-walk : goal.returns-clause-walk
returns-clause-walk c =
    λ k scope h.
    let b = c.args.bound.value in
    let own = c.args.own.now in
    let names = c.in_ok-declare_all-2.ensures.ranges (k + 1 + length own) (with_params (k + 1) own scope) (c.in_ok-declare_all.ensures.ranges (k + 1) scope h) in
    let parts = procedure_parts_in k own c.args.inner.now c.args.body.now scope c.declare_all-2.new.table names in
    passed_third b parts c.args.intervals.now c.args.intervals.now c.args.intervals.now c.statements.new.intervals
    (variables_passed (λ p. p.name) (λ p. p.range) b own c.args.intervals.now c.in_ok-declare_all.ensures.first)
    (variables_passed (λ l. l.name) (λ l. l.range) b c.args.inner.now c.args.intervals.now c.in_ok-declare_all-2.ensures.first)
    c.in_ok-statements.ensures
