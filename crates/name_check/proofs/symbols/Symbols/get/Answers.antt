use Rattle.plain_text.specs.Lookup.{lookup}
use Rattle.name_check.proofs.SymbolLemmas.{lookup-scope_in, answered}
use Rattle.name_check.proofs.symbols.Symbols.get.Goals as goal

pub returns : goal.returns
returns c =
    let table = c.self.inside.table in
    answered c.get.result (lookup c.args.name.now table) (lookup c.args.name.now c.args.self.now) (lookup-scope_in table c.args.self.now c.args.name.now c.self.view_is) c.get.ensures
