use Rattle.std.proofs.Common.{◌+◌, [], map, refl, ap, sym, subst, arith}
use Rattle.source_tree.specs.Scope.{with_declared}
use Rattle.name_check.specs.Names.{Loops, all_faults, statement_faults}
use Rattle.name_check.specs.Reported.{Walks}
use Rattle.name_check.specs.Ties.{all_ties, statement_ties}
use Rattle.name_check.proofs.WalkLemmas.{reports}
use Rattle.name_check.proofs.RestLemmas.{passed_first, passed_next, passed_stops, passed_at, passed_all, names_fit, procedures_fit}
use Rattle.name_check.proofs.checker.walk.Goals as goal

pub loop-d-init : goal.loop-d-init
loop-d-init c =
    passed_at c.args.declarations.now c.args.statements.now 0 0 0 0 0 [] c.new-symbols.result c.args.ties.now c.args.ties.now refl refl (sym c.new-symbols.ensures)
    (passed_first c.args.declarations.now c.args.statements.now c.args.ties.now)

pub declaration-requires : goal.declaration-requires
declaration-requires c =
    let l = c.loop-d in
    let fit = names_fit c.args.declarations.now c.args.statements.now l.d-index l.number l.procedures l.symbols c.args.ties.now l.ties c.d-item.result c.loop-d-test.true c.d-item.is l.invariant c.requires in
    omega (arith, fit)

pub overflow_add-number : goal.overflow_add-number
overflow_add-number c =
    let l = c.loop-d in
    let fit = names_fit c.args.declarations.now c.args.statements.now l.d-index l.number l.procedures l.symbols c.args.ties.now l.ties c.d-item.result c.loop-d-test.true c.d-item.is l.invariant c.requires in
    omega (arith, fit, c.names_in-number.ensures)

pub overflow_add-procedures : goal.overflow_add-procedures
overflow_add-procedures c =
    let l = c.loop-d in
    let fit = names_fit c.args.declarations.now c.args.statements.now l.d-index l.number l.procedures l.symbols c.args.ties.now l.ties c.d-item.result c.loop-d-test.true c.d-item.is l.invariant c.requires in
    let few = procedures_fit c.args.declarations.now c.args.statements.now l.d-index l.number l.procedures l.symbols c.args.ties.now l.ties c.d-item.result c.loop-d-test.true c.d-item.is l.invariant in
    omega (arith, fit, few, c.procedures_in-procedures.ensures)

pub loop-d-preserved : goal.loop-d-preserved
loop-d-preserved c =
    let l = c.loop-d in
    let d = c.d-item.result in
    passed_at c.args.declarations.now c.args.statements.now (l.d-index + 1) _ (l.number + c.names_in-number.result) _ (l.procedures + c.procedures_in-procedures.result) (with_declared l.number d l.symbols)
    c.declaration.new.symbols c.args.ties.now c.declaration.new.ties (ap (λ n. l.number + n) (sym c.names_in-number.ensures))
    (ap (λ n. l.procedures + n) (sym c.procedures_in-procedures.ensures)) (sym c.in_ok-declaration.ensures.declared)
    (passed_next c.args.declarations.now c.args.statements.now l.d-index l.number l.procedures l.symbols c.args.ties.now l.ties d c.loop-d-test.true c.d-item.is l.invariant c.declaration.new.ties
    c.in_ok-declaration.ensures.walk)

pub returns-in_err-declaration : goal.returns-in_err-declaration
returns-in_err-declaration c =
    let l = c.loop-d in
    let fault = c.in_err-declaration.field-0.0 in
    reports _ _ c.args.ties.now c.declaration.new.ties fault c.from_residual.result c.from_residual.ensures.1
    (passed_stops c.args.declarations.now c.args.statements.now l.d-index l.number l.procedures l.symbols c.args.ties.now l.ties c.d-item.result c.loop-d-test.true c.d-item.is l.invariant fault c.in_err-declaration.ensures.walk)

pub returns : goal.returns
returns c =
    let l = c.loop-d in
    let statements = c.args.statements.now in
    let of : Loops → Type 0 = λ loops. Walks (all_faults (map statement_faults statements) l.symbols loops) (all_ties (map statement_ties statements) l.symbols) l.ties c.statements.result c.statements.new.ties in
    passed_all c.args.declarations.now c.args.statements.now l.d-index l.number l.procedures l.symbols c.args.ties.now l.ties c.statements.new.ties c.statements.result c.loop-d-test.false l.invariant
    (subst of c.new-loops.ensures c.statements.ensures.walk)
