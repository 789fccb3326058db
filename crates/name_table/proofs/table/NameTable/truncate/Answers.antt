use Rattle.std.proofs.Common.{sym, ap, ◌∙◌, take}
use Rattle.std.proofs.lemmas.List.{take-map}
use Rattle.name_table.specs.Entries.{named}
use Rattle.name_table.proofs.table.NameTable.truncate.Goals as goal

pub returns : goal.returns
returns g c =
    ap named c.truncate.ensures.entries ∙ sym (take-map (λ e. (e.0.items, e.1)) c.args.len c.self.inside.entries.entries) ∙ ap (take c.args.len) c.self.view_is
