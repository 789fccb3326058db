use Rattle.std.proofs.Common.{map, ap}
use Rattle.thin_source.specs.ThinRules.{is_lawful_statement}
use Rattle.thin_source.specs.ThinView.{declaration_view, statement_view}
use Rattle.thin_source.proofs.rules.is_lawful_statement.Goals as goal

pub returns-in-Assign : goal.returns-in-Assign
returns-in-Assign c =
    let by_case = ap (λ statement. is_lawful_statement (map declaration_view c.args.declarations.now) (statement_view statement)) c.in-Assign.is in
    cc
