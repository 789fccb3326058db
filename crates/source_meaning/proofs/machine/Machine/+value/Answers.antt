use Rattle.std.proofs.Common.{sym, ap, ◌∙◌, rules}
use Rattle.std.proofs.lemmas.Int.{to_z-of_z}
use mir.Syntax.{w128}
use mir.Val.{SFits}
use Rattle.resolved_tree.specs.declared.tree.Value.{Value, Neg, Element, Binary}
use Rattle.source_meaning.proofs.Following.{err_computes}
use Rattle.source_meaning.proofs.ValueForms.{index_stops, element_goes, neg_stops, neg_goes, left_stops, right_stops, binary_goes, computed_tells}
use Rattle.source_meaning.proofs.machine.Machine.+value.Goals as goal

pub returns-in_err-at-in-Element-clause-does : goal.returns-in_err-at-in-Element-clause-does
returns-in_err-at-in-Element-clause-does t c =
    let is = c.in-Element.is ∙ ap (λ (a : Value). Element c.in-Element.slot a c.in-Element.line) (sym c.get.ensures) in
    err_computes _ _ _ _ _ c.from_residual-in_err-at-in-Element.ensures (index_stops c.args.v.now _ _ _ c.in_ok-visit.ensures.does _ _ _ is _ _ c.in_err-at-in-Element.ensures.does)

pub returns-in_ok-at-in-Element-clause-does : goal.returns-in_ok-at-in-Element-clause-does
returns-in_ok-at-in-Element-clause-does t c =
    let is = c.in-Element.is ∙ ap (λ (a : Value). Element c.in-Element.slot a c.in-Element.line) (sym c.get.ensures) in
    let fits : SFits w128 c.in_ok-at-in-Element.at = search rules in
    element_goes c.args.v.now _ _ _ c.in_ok-visit.ensures.does _ _ _ is _ _ _ _ c.in_ok-at-in-Element.ensures.does (simp to_z-of_z at c.element.ensures)

pub returns-in_err-x-in-Neg-clause-does : goal.returns-in_err-x-in-Neg-clause-does
returns-in_err-x-in-Neg-clause-does t c =
    let is = c.in-Neg.is ∙ ap (λ (a : Value). Neg a) (sym c.get-in-Neg.ensures) in
    err_computes _ _ _ _ _ c.from_residual-in_err-x-in-Neg.ensures (neg_stops c.args.v.now _ _ _ c.in_ok-visit.ensures.does _ is _ _ c.in_err-x-in-Neg.ensures.does)

pub returns-in_ok-x-in-Neg-clause-does : goal.returns-in_ok-x-in-Neg-clause-does
returns-in_ok-x-in-Neg-clause-does t c =
    let is = c.in-Neg.is ∙ ap (λ (a : Value). Neg a) (sym c.get-in-Neg.ensures) in
    let fits : SFits w128 c.in_ok-x-in-Neg.x = search rules in
    let computed = simp to_z-of_z at c.checked_neg.ensures in
    neg_goes c.args.v.now _ _ _ c.in_ok-visit.ensures.does _ is _ _ _ _ c.in_ok-x-in-Neg.ensures.does (computed_tells _ _ _ _ computed c.word.ensures)

pub returns-in_err-x-in-Binary-clause-does : goal.returns-in_err-x-in-Binary-clause-does
returns-in_err-x-in-Binary-clause-does t c =
    let is = c.in-Binary.is ∙ ap (λ (a : Value). Binary a c.in-Binary.operator c.in-Binary.right c.in-Binary.line) (sym c.get-in-Binary.ensures) in
    err_computes _ _ _ _ _ c.from_residual-in_err-x-in-Binary.ensures (left_stops c.args.v.now _ _ _ c.in_ok-visit.ensures.does _ _ _ _ is _ _ c.in_err-x-in-Binary.ensures.does)

pub returns-in_err-y-in-Binary-clause-does : goal.returns-in_err-y-in-Binary-clause-does
returns-in_err-y-in-Binary-clause-does t c =
    let is = c.in-Binary.is ∙ ap (λ (a : Value). Binary a c.in-Binary.operator c.in-Binary.right c.in-Binary.line) (sym c.get-in-Binary.ensures) ∙ ap (λ (b : Value). Binary c.get-in-Binary.result.now c.in-Binary.operator b c.in-Binary.line) (sym c.get-in-Binary-2.ensures) in
    err_computes _ _ _ _ _ c.from_residual-in_err-y-in-Binary.ensures (right_stops c.args.v.now _ _ _ c.in_ok-visit.ensures.does _ _ _ _ is _ _ _ _ c.in_ok-x-in-Binary.ensures.does c.in_err-y-in-Binary.ensures.does)

pub returns-in_ok-y-in-Binary-clause-does : goal.returns-in_ok-y-in-Binary-clause-does
returns-in_ok-y-in-Binary-clause-does t c =
    let is = c.in-Binary.is ∙ ap (λ (a : Value). Binary a c.in-Binary.operator c.in-Binary.right c.in-Binary.line) (sym c.get-in-Binary.ensures) ∙ ap (λ (b : Value). Binary c.get-in-Binary.result.now c.in-Binary.operator b c.in-Binary.line) (sym c.get-in-Binary-2.ensures) in
    let fits : SFits w128 c.in_ok-x-in-Binary.x = search rules in
    let fits' : SFits w128 c.in_ok-y-in-Binary.y = search rules in
    binary_goes c.args.v.now _ _ _ c.in_ok-visit.ensures.does _ _ _ _ is _ _ _ _ _ _ c.in_ok-x-in-Binary.ensures.does c.in_ok-y-in-Binary.ensures.does (simp to_z-of_z at c.combined.ensures)
