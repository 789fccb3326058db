use Rattle.std.proofs.Common.{◌∷◌, [], ◌++◌, length, ◌∙◌}
use Rattle.source_tree.specs.Scope.{inside}
use Rattle.name_table.proofs.MirrorLemmas.{lookup-mirrored}
use Rattle.name_check.specs.Held.{declared_of, scope_in}
use Rattle.resolved_tree.proofs.ProcedureLemmas.{procedure_slots, procedure_scope}
use Rattle.resolved_tree.proofs.SameNames.{statements_same}
use Rattle.resolved_tree.proofs.declarations.procedure.Goals as goal

pub returns-clause-slots : goal.returns-clause-slots
returns-clause-slots c =
    procedure_slots c.args.slots.now c.push.new.self c.variables.new.slots c.args.own.now c.args.inner.now c.in_ok-push.ensures.ok c.in_ok-variables.ensures.slots
    c.variables-2.new.slots c.in_ok-variables-2.ensures.slots

pub returns-clause-procedures : goal.returns-clause-procedures
returns-clause-procedures c = λ scope h.
    let within = inside (length c.args.slots.now) c.args.own.now c.args.inner.now scope in
    let names =
    procedure_scope c.args.slots.now c.push.new.self c.variables.new.slots c.args.own.now c.args.inner.now c.in_ok-push.ensures.ok c.in_ok-variables.ensures.slots
    c.args.table.now c.variables.new.table c.variables-2.new.table c.in_ok-variables.ensures.names c.in_ok-variables-2.ensures.names scope h in
    let number = c.in_ok-number.ensures ∙ c.len.ensures in
    let starts = c.from_vec.ensures ∙ c.in_ok-starts.ensures in
    let body = c.in_ok-steps.ensures ∙ statements_same (scope_in c.variables-2.new.table) within (lookup-mirrored declared_of c.variables-2.new.table within names) c.args.body.now in
    c.in_ok-push-2.ensures.ok ∙ (λ j. c.args.procedures.now ++ record { number = number j; params = c.in_ok-count.ensures j; locals = starts j; body = body j } ∷ [])
