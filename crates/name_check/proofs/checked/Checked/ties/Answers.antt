use Rattle.std.proofs.Common.{◌<◌, sym, ◌∙◌, subst}
use Rattle.std.specs.List.{All}
use Rattle.source_tree.specs.Numbers.{program_names}
use Rattle.name_check.proofs.TieBounds.{ties_below}
use Rattle.name_check.proofs.checked.Checked.ties.Goals as goal

pub returns-clause-below : goal.returns-clause-below
returns-clause-below c =
    let checked = c.args.self.now in
    subst (λ ties. All (λ tie. tie < program_names checked.program) ties) (sym (c.as_slice.ensures ∙ checked.tied)) (ties_below checked.program)
