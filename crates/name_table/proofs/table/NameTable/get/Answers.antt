use Rattle.std.proofs.Common.{sym, ap, ◌∙◌}
use Rattle.plain_text.specs.Lookup.{lookup}
use Rattle.name_table.proofs.HeldLemmas.{lookup-named, answered}
use Rattle.name_table.proofs.table.NameTable.get.Goals as goal

pub returns : goal.returns
returns g c =
    answered c.get.result (lookup c.args.name.now c.args.self.now)
    (ap (lookup c.args.name.now) (sym c.self.view_is) ∙ lookup-named c.self.inside.entries.entries c.args.name.now ∙ sym c.get.ensures.value)
