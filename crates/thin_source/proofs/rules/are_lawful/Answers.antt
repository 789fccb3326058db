use Rattle.std.proofs.Common.{map, rules, tests, sym, ◌∙◌}
use Rattle.std.proofs.lemmas.Iterator.{YieldsList-from_slice}
use Rattle.std.proofs.lemmas.Iterator.Search.{all_from_yields_List}
use Rattle.std.proofs.lemmas.List.Folds.{list_all-map}
use Rattle.thin_source.specs.ThinRules.{is_lawful_statement}
use Rattle.thin_source.specs.ThinView.{declaration_view, statement_view}
use Rattle.thin_source.proofs.rules.are_lawful.Goals as goal

pub returns : goal.returns
returns c =
    let declarations = map declaration_view c.args.declarations.now in
    all_from_yields_List (λ statement. is_lawful_statement declarations (statement_view statement)) _ _ _ c.all.ensures.ran (YieldsList-from_slice c.args.statements.now cc) (λ x b q k. search (rules, tests))
    ∙ sym (list_all-map (is_lawful_statement declarations) statement_view c.args.statements.now)
