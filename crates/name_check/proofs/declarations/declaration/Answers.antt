use Rattle.std.proofs.Common.{◌+◌, [], ◌++◌, length, map, nat_eq, sym, ap, ◌∙◌, subst, append_assoc}
use Rattle.source_tree.specs.Scope.{inside, with_params}
use Rattle.source_tree.specs.declared.declaration.Declaration.{Declaration}
use Rattle.name_check.specs.declared.fault.NameFault.TheVariants.{TooMany}
use Rattle.name_check.specs.Names.{all_faults, as_new, declaration_faults, locals_faults, most_procedures, params_faults, statement_faults, where_broken}
use Rattle.name_check.specs.Reported.{Walks}
use Rattle.name_check.specs.Ties.{all_ties, declaration_ties, statement_ties}
use Rattle.name_check.proofs.WalkLemmas.{ends}
use Rattle.name_check.proofs.declarations.declaration.Goals as goal

pub returns-in_ok-procedure_inside-in-Proc-clause-walk : goal.returns-in_ok-procedure_inside-in-Proc-clause-walk
returns-in_ok-procedure_inside-in-Proc-clause-walk c =
    let p = c.in-Proc in
    let k = c.args.number + 1 in
    let scope = c.args.symbols.now in
    let own = as_new p.name scope in
    let many = where_broken (nat_eq c.args.procedures most_procedures) (TooMany p.name.line) in
    let within = params_faults k p.params scope ++ (locals_faults (k + length p.params) p.locals (with_params k p.params scope) ++
    all_faults (map statement_faults p.body) (inside c.args.number p.params p.locals scope) []) in
    let done = c.in_ok-procedure_inside-in-Proc.ensures.walk in
    subst (λ (d : Declaration). Walks (declaration_faults c.args.number c.args.procedures d scope) (declaration_ties c.args.number d scope) c.args.ties.now c.declare_procedure.result c.procedure_inside.new.ties)
    (sym p.is)
    (ends (own ++ (many ++ within)) (all_ties (map statement_ties p.body) (inside c.args.number p.params p.locals scope)) c.args.ties.now c.procedure_inside.new.ties c.declare_procedure.result
    (sym (append_assoc own many within) ∙ ap (λ faults. faults ++ within) c.in_ok-procedure_heading-in-Proc.ensures.first ∙ done.0) done.1 c.declare_procedure.ensures.err)
