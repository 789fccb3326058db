use Rattle.std.proofs.Common.{◌≡◌, ℕ, ◌+◌, List, [], ◌++◌, length, map, take, sym, ap, ◌∙◌, subst, append_assoc}
use Rattle.source_tree.specs.Scope.{Scope, inside, with_params}
use Rattle.source_tree.specs.declared.declaration.Local.{Local}
use Rattle.source_tree.specs.declared.declaration.Param.{Param}
use Rattle.source_tree.specs.declared.statement.Statement.{Statement}
use Rattle.name_check.specs.declared.fault.NameFault.{NameFault}
use Rattle.name_check.specs.Names.{all_faults, params_faults, locals_faults, statement_faults}
use Rattle.name_check.specs.Reported.{IsReported}
use Rattle.name_check.specs.Ties.{all_ties, statement_ties}
use Rattle.name_check.proofs.VariableLemmas.{left_again}
use Rattle.name_check.proofs.WalkLemmas.{reports, stops, stops_later}
use Rattle.name_check.proofs.declarations.procedure_inside.Goals as goal

-- its faults: those of parameters and locals, and then those of the body
module _ (number : ℕ) (params : List Param) (locals : List Local) (body : List Statement) (scope : Scope) where
  abbrev heads : List NameFault
  heads = params_faults (number + 1) params scope ++ locals_faults (number + 1 + length params) locals (with_params (number + 1) params scope)

  abbrev within : List NameFault
  within = all_faults (map statement_faults body) (inside number params locals scope) []

  parted : heads ++ within ≡ params_faults (number + 1) params scope ++ (locals_faults (number + 1 + length params) locals (with_params (number + 1) params scope) ++ within)
  parted = append_assoc (params_faults (number + 1) params scope) (locals_faults (number + 1 + length params) locals (with_params (number + 1) params scope)) within

  pub reported_in : (fault : NameFault) → IsReported (heads ++ within) fault
      → IsReported (params_faults (number + 1) params scope ++ (locals_faults (number + 1 + length params) locals (with_params (number + 1) params scope) ++ within)) fault
  reported_in fault h = subst (λ faults. IsReported faults fault) parted h

pub returns-in_err-declare_inside-clause-walk : goal.returns-in_err-declare_inside-clause-walk
returns-in_err-declare_inside-clause-walk c =
    let a = c.args in
    let fault = c.in_err-declare_inside.field-0.0 in
    reports _ _ a.ties.now a.ties.now fault c.from_residual.result c.from_residual.ensures.1
    (reported_in a.number a.params.now a.locals.now a.body.now a.symbols.now fault
    (stops (heads a.number a.params.now a.locals.now a.body.now a.symbols.now) (within a.number a.params.now a.locals.now a.body.now a.symbols.now) fault c.in_err-declare_inside.ensures.first))

pub returns-in_err-statements-clause-walk : goal.returns-in_err-statements-clause-walk
returns-in_err-statements-clause-walk c =
    let a = c.args in
    let fault = c.in_err-statements.field-0.0 in
    reports _ _ a.ties.now c.statements.new.ties fault c.from_residual-in_err-statements.result c.from_residual-in_err-statements.ensures.1
    (reported_in a.number a.params.now a.locals.now a.body.now a.symbols.now fault
    (stops_later (heads a.number a.params.now a.locals.now a.body.now a.symbols.now) (within a.number a.params.now a.locals.now a.body.now a.symbols.now) fault c.in_ok-declare_inside.ensures.first
    (subst (λ faults. IsReported faults fault) (λ j. all_faults (map statement_faults a.body.now) (c.in_ok-declare_inside.ensures.scope j) (c.new-loops.ensures j))
    c.in_err-statements.ensures.walk)))

pub returns-clause-walk : goal.returns-clause-walk
returns-clause-walk c =
    let a = c.args in
    let done = c.in_ok-statements.ensures.walk in (
      sym (parted a.number a.params.now a.locals.now a.body.now a.symbols.now)
          ∙ ap (λ faults. faults ++ within a.number a.params.now a.locals.now a.body.now a.symbols.now) c.in_ok-declare_inside.ensures.first
          ∙ sym (λ j. all_faults (map statement_faults a.body.now) (c.in_ok-declare_inside.ensures.scope j) (c.new-loops.ensures j)) ∙ done.0,
      done.1 ∙ ap (λ s. a.ties.now ++ all_ties (map statement_ties a.body.now) s) c.in_ok-declare_inside.ensures.scope,
    )

pub returns-clause-left : goal.returns-clause-left
returns-clause-left c =
    let k = c.args.number + 1 in
    c.truncate.ensures ∙ (λ j. take (c.len-outside.ensures j) (c.in_ok-declare_inside.ensures.scope j))
    ∙ left_again (λ p. p.name) (λ p. p.range) (λ l. l.name) (λ l. l.range) k (k + length c.args.params.now) c.args.params.now c.args.locals.now c.args.symbols.now
