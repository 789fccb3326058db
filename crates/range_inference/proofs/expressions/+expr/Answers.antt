use Rattle.std.proofs.Common.{rules, ◌≡◌, refl, sym, ap, ◌∙◌}
use Rattle.source_tree.specs.declared.expression.Expr.{Element, Neg}
use Rattle.range_inference.specs.Bound.{IsSetBound}
use Rattle.range_inference.specs.Interval.{interval_of, interval_of_range, interval_by, negated}
use Rattle.range_inference.specs.Table.{range_in}
use Rattle.range_inference.proofs.Judging.{parted_first, reports, stops, stops_next, walks_on, walks_third, if_ok_more}
use Rattle.range_inference.proofs.NodeDemands.{element_parts, neg_parts, binary_is, binary_parts, interval_of-Binary, small_within}
use Rattle.range_inference.proofs.expressions.+expr.Goals as goal

pub returns-in_err-expr-in-Element-clause-walk : goal.returns-in_err-expr-in-Element-clause-walk
returns-in_err-expr-in-Element-clause-walk t c =
    let b = c.args.bound.value in
    let name = c.in-Element.name in
    let parts = element_parts (range_in c.args.table.now) c.args.e.now name c.get.result.now _ (c.in-Element.is ∙ ap (λ i. Element name i) (sym c.get.ensures)) refl in
    reports b _ c.args.intervals.now c.expr.new.intervals c.in_err-expr-in-Element.field-0.0 c.from_residual.result c.from_residual.ensures.1
    (stops b parts c.in_err-expr-in-Element.field-0.0 c.in_err-expr-in-Element.ensures.walk)

pub returns-in_ok-expr-in-Element-clause-walk : goal.returns-in_ok-expr-in-Element-clause-walk
returns-in_ok-expr-in-Element-clause-walk t c =
    let r = range_in c.args.table.now in
    let name = c.in-Element.name in
    let own : c.of_range-in-Element.result ≡ interval_of_range (r name.bytes) = search rules in
    let parts = element_parts r c.args.e.now name c.get.result.now c.of_range-in-Element.result (c.in-Element.is ∙ ap (λ i. Element name i) (sym c.get.ensures)) own in
    walks_on c.args.bound.value parts c.args.intervals.now c.expr.new.intervals c.put-in-Element.new.intervals c.put-in-Element.result
    c.in_ok-expr-in-Element.ensures.walk c.put-in-Element.ensures.walk

pub returns-in_err-inner-in-Neg-clause-walk : goal.returns-in_err-inner-in-Neg-clause-walk
returns-in_err-inner-in-Neg-clause-walk t c =
    let b = c.args.bound.value in
    let line = c.in-Neg.line in
    let parts = neg_parts (range_in c.args.table.now) c.args.e.now c.get-in-Neg.result.now line _ (c.in-Neg.is ∙ ap (λ i. Neg i line) (sym c.get-in-Neg.ensures)) refl in
    reports b _ c.args.intervals.now c.expr-in-Neg.new.intervals c.in_err-inner-in-Neg.field-0.0 c.from_residual-in_err-inner-in-Neg.result c.from_residual-in_err-inner-in-Neg.ensures.1
    (stops b parts c.in_err-inner-in-Neg.field-0.0 c.in_err-inner-in-Neg.ensures.walk)

pub returns-in_ok-inner-in-Neg-clause-walk : goal.returns-in_ok-inner-in-Neg-clause-walk
returns-in_ok-inner-in-Neg-clause-walk t c =
    let line = c.in-Neg.line in
    let own = c.negated.ensures ∙ ap negated c.in_ok-inner-in-Neg.ensures.value.0 in
    let parts = neg_parts (range_in c.args.table.now) c.args.e.now c.get-in-Neg.result.now line c.negated.result (c.in-Neg.is ∙ ap (λ i. Neg i line) (sym c.get-in-Neg.ensures)) own in
    walks_on c.args.bound.value parts c.args.intervals.now c.expr-in-Neg.new.intervals c.put-in-Neg.new.intervals c.put-in-Neg.result
    c.in_ok-inner-in-Neg.ensures.walk c.put-in-Neg.ensures.walk

pub returns-in_err-a-in-Binary-clause-walk : goal.returns-in_err-a-in-Binary-clause-walk
returns-in_err-a-in-Binary-clause-walk t c =
    let b = c.args.bound.value in
    let n = c.in-Binary in
    let parts = binary_parts (range_in c.args.table.now) c.args.e.now c.get-in-Binary.result.now n.operator n.right n.line _ (binary_is c.args.e.now n.left n.operator n.right n.line _ _ n.is c.get-in-Binary.ensures refl) refl in
    reports b _ c.args.intervals.now c.expr-in-Binary.new.intervals c.in_err-a-in-Binary.field-0.0 c.from_residual-in_err-a-in-Binary.result c.from_residual-in_err-a-in-Binary.ensures.1
    (stops b (parted_first parts) c.in_err-a-in-Binary.field-0.0 c.in_err-a-in-Binary.ensures.walk)

pub returns-in_err-b-in-Binary-clause-walk : goal.returns-in_err-b-in-Binary-clause-walk
returns-in_err-b-in-Binary-clause-walk t c =
    let b = c.args.bound.value in
    let n = c.in-Binary in
    let left = c.get-in-Binary.result.now in
    let right = c.get-in-Binary-2.result.now in
    let parts = binary_parts (range_in c.args.table.now) c.args.e.now left n.operator right n.line _ (binary_is c.args.e.now n.left n.operator n.right n.line left right n.is c.get-in-Binary.ensures c.get-in-Binary-2.ensures) refl in
    reports b _ c.args.intervals.now c.expr-in-Binary-2.new.intervals c.in_err-b-in-Binary.field-0.0 c.from_residual-in_err-b-in-Binary.result c.from_residual-in_err-b-in-Binary.ensures.1
    (stops_next b parts c.in_err-b-in-Binary.field-0.0 c.in_ok-a-in-Binary.ensures.walk.0 c.in_err-b-in-Binary.ensures.walk)

pub put_combined-requires-clause-left : goal.put_combined-requires-clause-left
put_combined-requires-clause-left t c =
    let small : IsSetBound c.args.bound.value = search rules in
    small_within c.args.bound.value c.in_ok-a-in-Binary.a small c.in_ok-a-in-Binary.ensures.value.1

pub put_combined-requires-clause-right : goal.put_combined-requires-clause-right
put_combined-requires-clause-right t c =
    let small : IsSetBound c.args.bound.value = search rules in
    small_within c.args.bound.value c.in_ok-b-in-Binary.b small c.in_ok-b-in-Binary.ensures.value.1

pub returns-in_ok-b-in-Binary-clause-value : goal.returns-in_ok-b-in-Binary-clause-value
returns-in_ok-b-in-Binary-clause-value t c =
    let n = c.in-Binary in
    let r = range_in c.args.table.now in
    let left = c.get-in-Binary.result.now in
    let right = c.get-in-Binary-2.result.now in
    let is = binary_is c.args.e.now n.left n.operator n.right n.line left right n.is c.get-in-Binary.ensures c.get-in-Binary-2.ensures in
    if_ok_more c.put_combined.result _ _ c.put_combined.ensures.value (λ i h. (
      h.0 ∙ (λ j. interval_by n.operator (c.in_ok-a-in-Binary.ensures.value.0 j) (c.in_ok-b-in-Binary.ensures.value.0 j))
          ∙ sym (interval_of-Binary r c.args.e.now left n.operator right n.line is),
      h.1,
    ))

pub returns-in_ok-b-in-Binary-clause-walk : goal.returns-in_ok-b-in-Binary-clause-walk
returns-in_ok-b-in-Binary-clause-walk t c =
    let n = c.in-Binary in
    let left = c.get-in-Binary.result.now in
    let right = c.get-in-Binary-2.result.now in
    let is = binary_is c.args.e.now n.left n.operator n.right n.line left right n.is c.get-in-Binary.ensures c.get-in-Binary-2.ensures in
    let r = range_in c.args.table.now in
    let i = interval_by n.operator c.in_ok-a-in-Binary.a c.in_ok-b-in-Binary.b in
    let own : i ≡ interval_by n.operator (interval_of left r) (interval_of right r) = λ j. interval_by n.operator (c.in_ok-a-in-Binary.ensures.value.0 j) (c.in_ok-b-in-Binary.ensures.value.0 j) in
    let parts = binary_parts r c.args.e.now left n.operator right n.line i is own in
    walks_third c.args.bound.value parts c.args.intervals.now c.expr-in-Binary.new.intervals c.expr-in-Binary-2.new.intervals c.put_combined.new.intervals c.put_combined.result
    c.in_ok-a-in-Binary.ensures.walk c.in_ok-b-in-Binary.ensures.walk c.put_combined.ensures.walk
