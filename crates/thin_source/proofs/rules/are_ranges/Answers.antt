use Rattle.std.proofs.Common.{rules, tests, sym, ◌∙◌}
use Rattle.std.proofs.lemmas.Iterator.{YieldsList-from_slice}
use Rattle.std.proofs.lemmas.Iterator.Search.{all_from_yields_List}
use Rattle.std.proofs.lemmas.List.Folds.{list_all-map}
use Rattle.thin_source.specs.ThinRules.{is_range}
use Rattle.thin_source.specs.ThinView.{declaration_view}
use Rattle.thin_source.proofs.rules.are_ranges.Goals as goal

pub returns : goal.returns
returns c =
    all_from_yields_List (λ declaration. is_range (declaration_view declaration)) _ _ _ c.all.ensures.ran (YieldsList-from_slice c.args.declarations.now cc) (λ x b q k. search (rules, tests))
    ∙ sym (list_all-map is_range declaration_view c.args.declarations.now)
