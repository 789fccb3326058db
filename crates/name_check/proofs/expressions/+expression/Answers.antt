use Rattle.std.proofs.Common.{ap, sym, ◌∙◌}
use Rattle.source_tree.specs.declared.expression.Expr.{Element, Binary}
use Rattle.name_check.proofs.ExpressionLemmas.{element_stops, element_walks, binary_walks}
use Rattle.name_check.proofs.WalkLemmas.{reports, used}
use Rattle.name_check.proofs.expressions.+expression.Goals as goal

pub returns-in_err-array-in-Element : goal.returns-in_err-array-in-Element
returns-in_err-array-in-Element t c =
    let e = c.in-Element in
    reports _ _ c.args.ties.now c.args.ties.now c.in_err-array-in-Element.field-0.0 c.from_residual-in_err-array-in-Element.result c.from_residual-in_err-array-in-Element.ensures.1
    (element_stops c.args.e.now c.args.symbols.now e.name e.index c.in_err-array-in-Element.field-0.0 e.is c.in_err-array-in-Element.ensures)

pub returns-in_ok-push-in-Element : goal.returns-in_ok-push-in-Element
returns-in_ok-push-in-Element t c =
    let name = c.in-Element.name in
    element_walks c.args.e.now c.args.symbols.now name c.get.result.now c.args.ties.now c.push-in-Element.new.self c.expression.new.ties c.expression.result
    (c.in-Element.is ∙ ap (λ index. Element name index) (sym c.get.ensures))
    (used _ _ c.args.ties.now c.push-in-Element.new.self c.in_ok-array-in-Element.field-0 c.in_ok-array-in-Element.ensures c.in_ok-push-in-Element.ensures.ok) c.expression.ensures

pub returns-in_ok-expression-in-Binary : goal.returns-in_ok-expression-in-Binary
returns-in_ok-expression-in-Binary t c =
    let e = c.in-Binary in
    binary_walks c.args.e.now c.args.symbols.now c.get-in-Binary.result.now e.operator c.get-in-Binary-2.result.now e.line c.args.ties.now c.expression-in-Binary.new.ties
    c.expression-in-Binary-2.new.ties c.expression-in-Binary-2.result
    (e.is ∙ (λ j. Binary (sym c.get-in-Binary.ensures j) e.operator (sym c.get-in-Binary-2.ensures j) e.line)) c.in_ok-expression-in-Binary.ensures c.expression-in-Binary-2.ensures
