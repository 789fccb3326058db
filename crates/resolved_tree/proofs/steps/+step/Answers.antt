use Rattle.std.proofs.Common.{rules, ap, ◌∙◌, sym}
use Rattle.std.proofs.lemmas.Int.{to_z-of_z}
use mir.Val.{SFits}
use Rattle.std.specs.Int.{w128}
use Rattle.resolved_tree.specs.Resolution.{resolved_statements}
use Rattle.name_check.specs.Held.{scope_in}
use Rattle.resolved_tree.specs.declared.tree.Step.{If, For, While}
use Rattle.resolved_tree.proofs.StepLemmas.{resolved_if, resolved_for, resolved_while}
use Rattle.resolved_tree.proofs.steps.+step.Goals as goal

pub step-returns-in_ok-steps-in-If-2 : goal.step-returns-in_ok-steps-in-If-2
step-returns-in_ok-steps-in-If-2 t c =
    let scope = scope_in c.args.table.now in
    let i = c.in-If in
    let first = c.in_ok-steps-in-If.ensures ∙ ap (λ l. resolved_statements l scope) c.as_slice.ensures in
    let second = c.in_ok-steps-in-If-2.ensures ∙ ap (λ l. resolved_statements l scope) c.as_slice-in-If.ensures in
    (λ j. If (c.in_ok-test-in-If.ensures j) (first j) (second j)) ∙ sym (resolved_if c.args.s.now i.condition i.first i.second i.line scope i.is)

pub step-returns-in_ok-steps-in-For : goal.step-returns-in_ok-steps-in-For
step-returns-in_ok-steps-in-For t c =
    let scope = scope_in c.args.table.now in
    let f = c.in-For in
    let body = c.in_ok-steps-in-For.ensures ∙ ap (λ l. resolved_statements l scope) c.as_slice-in-For.ensures in
    (λ j. For (c.slot.ensures j) (c.in_ok-value-in-For.ensures j) (c.in_ok-value-in-For-2.ensures j) (body j) f.line)
    ∙ sym (resolved_for c.args.s.now f.name f.first f.last f.body f.line scope f.is)

pub step-returns-in_ok-steps-in-While : goal.step-returns-in_ok-steps-in-While
step-returns-in_ok-steps-in-While t c =
    let scope = scope_in c.args.table.now in
    let w = c.in-While in
    let fits : SFits w128 w.limit = search rules in
    let limit = to_z-of_z w128 w.limit fits in
    let body = c.in_ok-steps-in-While.ensures ∙ ap (λ l. resolved_statements l scope) c.as_slice-in-While.ensures in
    (λ j. While (c.in_ok-test-in-While.ensures j) (limit j) (body j) w.line) ∙ sym (resolved_while c.args.s.now w.condition w.limit w.body w.line scope w.is)
