use Rattle.std.proofs.Common.{◌++◌, map, ap, sym, subst, ◌∙◌}
use Rattle.name_check.specs.Names.{expr_faults, exprs_faults}
use Rattle.name_check.specs.Reported.{IsReported}
use Rattle.name_check.specs.Ties.{all_ties, expr_ties}
use Rattle.name_check.proofs.WalkLemmas.{reports, walked_first, walked_next, walked_stops, walked_all, exprs_faults-flat_map, all_ties-flat_map}
use Rattle.name_check.proofs.expressions.expressions.Goals as goal

pub loop-e-init : goal.loop-e-init
loop-e-init c = walked_first _ _ c.as_slice-e-items.result.now c.args.ties.now

pub loop-e-preserved : goal.loop-e-preserved
loop-e-preserved c =
    let scope = c.args.symbols.now in
    walked_next (λ e. expr_faults e scope) (λ e. expr_ties e scope) c.as_slice-e-items.result.now c.loop-e.e-index c.args.ties.now c.loop-e.ties c.e-item.result c.loop-e-test.true c.e-item.is
    c.loop-e.invariant c.expression.new.ties c.in_ok-expression.ensures

pub returns-in_err-expression : goal.returns-in_err-expression
returns-in_err-expression c =
    let scope = c.args.symbols.now in
    reports _ _ c.args.ties.now c.expression.new.ties c.in_err-expression.field-0.0 c.from_residual.result c.from_residual.ensures.1
    (subst (λ faults. IsReported faults c.in_err-expression.field-0.0) (sym (exprs_faults-flat_map c.as_slice-e-items.result.now scope) ∙ ap (λ es. exprs_faults es scope) c.as_slice-e-items.ensures)
    (walked_stops (λ e. expr_faults e scope) (λ e. expr_ties e scope) c.as_slice-e-items.result.now c.loop-e.e-index c.args.ties.now c.loop-e.ties c.e-item.result c.loop-e-test.true c.e-item.is
    c.loop-e.invariant c.in_err-expression.field-0.0 c.in_err-expression.ensures))

pub returns : goal.returns
returns c =
    let scope = c.args.symbols.now in
    let es = c.as_slice-e-items.result.now in
    let all = walked_all (λ e. expr_faults e scope) (λ e. expr_ties e scope) es c.loop-e.e-index c.args.ties.now c.loop-e.ties c.loop-e-test.false c.loop-e.invariant in (
      ap (λ es. exprs_faults es scope) (sym c.as_slice-e-items.ensures) ∙ exprs_faults-flat_map es scope ∙ all.0,
      all.1 ∙ ap (λ ties. c.args.ties.now ++ ties) (sym (all_ties-flat_map expr_ties es scope) ∙ ap (λ es. all_ties (map expr_ties es) scope) c.as_slice-e-items.ensures),
    )
