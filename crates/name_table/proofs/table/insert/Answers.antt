use Rattle.std.proofs.Common.{◌≡◌, [], ◌∷◌, ◌++◌, None, sym, ap, ◌∙◌}
use Rattle.std.proofs.lemmas.List.{map-append}
use Rattle.indexmap.proofs.CallerLemmas.{insert_entry-new}
use Rattle.plain_text.specs.Lookup.{lookup}
use Rattle.name_table.specs.Entries.{named}
use Rattle.name_table.proofs.HeldLemmas.{lookup-named}
use Rattle.name_table.proofs.table.insert.Goals as goal

pub returns-in-Ok : goal.returns-in-Ok
returns-in-Ok g c =
    let table = c.args.entries.now in
    let key = c.in_ok-key.key in
    let new : lookup key.items (named table.entries) ≡ None = ap (λ name. lookup name (named table.entries)) c.in_ok-key.ensures.items ∙ c.requires in
    ap named (c.in-Ok.ensures.entries ∙ insert_entry-new _ table key c.args.value (sym (lookup-named table.entries key.items) ∙ new))
    ∙ map-append (λ e. (e.0.items, e.1)) table.entries ((key, c.args.value) ∷ [])
    ∙ ap (λ name. named table.entries ++ (name, c.args.value) ∷ []) c.in_ok-key.ensures.items
