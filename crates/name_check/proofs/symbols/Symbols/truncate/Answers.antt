use Rattle.std.proofs.Common.{sym, ap, ◌∙◌, take}
use Rattle.std.proofs.lemmas.List.{take-map}
use Rattle.name_check.specs.Held.{declared_of, scope_in}
use Rattle.name_check.proofs.symbols.Symbols.truncate.Goals as goal

pub returns : goal.returns
returns c =
    ap scope_in c.truncate.ensures ∙ sym (take-map (λ e. (e.0, declared_of e.1)) c.args.len c.self.inside.table) ∙ ap (take c.args.len) c.self.view_is
