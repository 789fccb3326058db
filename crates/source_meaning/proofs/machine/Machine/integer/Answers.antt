use Rattle.std.proofs.Common.{sym, ap, ◌∙◌, pos}
use Rattle.std.specs.Option.{option_copied}
use Rattle.resolved_tree.specs.Slots.{declared_of}
use Rattle.source_tree.specs.Scope.{integer_of}
use Rattle.source_meaning.specs.Follows.{state_of}
use Rattle.source_meaning.proofs.ListPlaces.{index_none}
use Rattle.source_meaning.proofs.machine.Machine.integer.Goals as goal

pub returns-in-None : goal.returns-in-None
returns-in-None c =
    index_none c.args.self.now.integers c.in-Variable.number (pos 0) (sym c.get.ensures.value ∙ ap option_copied c.in-None.is) ∙ ap (λ s. integer_of (declared_of s) (state_of c.args.self.now)) (sym c.in-Variable.is)
