use Rattle.std.proofs.Common.{◌≡◌, ◌+◌, length, subst}
use Rattle.std.specs.Prelude.{OnOk}
use Rattle.source_tree.specs.Scope.{with_locals, with_params}
use Rattle.name_check.specs.Names.{params_faults, locals_faults}
use Rattle.name_check.specs.Reported.{IsFirst}
use Rattle.name_check.proofs.WalkLemmas.{reported, stops, later_first}
use Rattle.name_check.proofs.declarations.declare_inside.Goals as goal

pub returns-in_err-declare_all-clause-first : goal.returns-in_err-declare_all-clause-first
returns-in_err-declare_all-clause-first c =
    let fault = c.in_err-declare_all.field-0.0 in
    let scope = c.args.symbols.now in
    reported _ fault c.from_residual.result c.from_residual.ensures.1
    (stops (params_faults c.args.first c.args.params.now scope)
    (locals_faults (c.args.first + length c.args.params.now) c.args.locals.now (with_params c.args.first c.args.params.now scope)) fault c.in_err-declare_all.ensures.first)

pub returns-clause-first : goal.returns-clause-first
returns-clause-first c =
    let scope = c.args.symbols.now in
    later_first (params_faults c.args.first c.args.params.now scope)
    (locals_faults (c.args.first + length c.args.params.now) c.args.locals.now (with_params c.args.first c.args.params.now scope)) c.declare_all-2.result c.in_ok-declare_all.ensures.first
    (subst (λ faults. IsFirst faults c.declare_all-2.result) (λ j. locals_faults (c.requires.after_params j) c.args.locals.now (c.in_ok-declare_all.ensures.scope j))
    c.declare_all-2.ensures.first)

pub returns-clause-scope : goal.returns-clause-scope
returns-clause-scope c =
    subst (λ scope. OnOk c.declare_all-2.result (c.declare_all-2.new.symbols ≡ scope)) (λ j. with_locals (c.requires.after_params j) c.args.locals.now (c.in_ok-declare_all.ensures.scope j))
    c.declare_all-2.ensures.scope
