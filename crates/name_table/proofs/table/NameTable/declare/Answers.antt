use Rattle.std.proofs.Common.{◌≡◌, sym, ap, ◌∙◌, subst}
use Rattle.std.specs.Prelude.{OnOk}
use Rattle.std.specs.Option.{is_some}
use Rattle.plain_text.specs.Lookup.{lookup}
use Rattle.name_table.specs.Entries.{named, with_new}
use Rattle.name_table.proofs.HeldLemmas.{lookup-named, not_some, known_keeps, new_follows}
use Rattle.name_table.proofs.table.NameTable.declare.Goals as goal

pub returns-then-contains_key : goal.returns-then-contains_key
returns-then-contains_key g c =
    let name = c.args.name.now in
    known_keeps c.args.self.now name c.args.value
    (ap is_some (ap (lookup name) (sym c.self.view_is) ∙ lookup-named c.self.inside.entries.entries name) ∙ sym c.if-contains_key.ensures)

pub insert-requires : goal.insert-requires
insert-requires g c =
    lookup-named c.self.inside.entries.entries c.args.name.now ∙ not_some _ (sym c.contains_key.ensures ∙ c.if-contains_key.false)

pub returns : goal.returns
returns g c =
    let name = c.args.name.now in
    let held = named c.self.inside.entries.entries in
    let after = named c.insert.new.entries.entries in
    subst (λ entries. OnOk c.insert.result (after ≡ with_new entries name c.args.value)) c.self.view_is
    (new_follows held after name c.args.value c.insert.result
    (lookup-named c.self.inside.entries.entries name ∙ not_some _ (sym c.contains_key.ensures ∙ c.if-contains_key.false)) c.insert.ensures)
