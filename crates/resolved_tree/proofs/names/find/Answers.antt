use Rattle.std.proofs.Common.{◌≡◌, Some, None, subst}
use Rattle.std.specs.Prelude.{MatchOption}
use Rattle.plain_text.specs.Lookup.{lookup}
use Rattle.name_check.specs.Held.{declared_of, scope_in}
use Rattle.resolved_tree.proofs.SymbolLemmas.{found}
use Rattle.resolved_tree.proofs.names.find.Goals as goal

pub returns : goal.returns
returns c =
    let scope = scope_in c.args.table.now in
    subst (λ x. MatchOption c.get.result (lookup x scope ≡ None) (λ symbol. lookup x scope ≡ Some (declared_of symbol.now))) c.as_slice.ensures
    (found c.get.result c.as_slice.result.now c.args.table.now c.get.ensures)
