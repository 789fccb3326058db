use Rattle.std.proofs.Common.{◌≡◌, length, arith, ap, ◌∙◌, sym, subst}
use Rattle.std.proofs.lemmas.List.FromFn.{length-range_with_len}
use Rattle.moduli_sets.specs.Moduli.{set_of}
use Rattle.mixed_radix.specs.Chosen.{IsChoice}
use Rattle.mixed_radix.proofs.ChosenLemmas.{IsChoice-remove}
use Rattle.mixed_radix.proofs.chosen.Chosen.without.Goals as goal

pub remove-requires : goal.remove-requires
remove-requires c =
    let count = length (set_of c.args.set.now).moduli in
    let size : length c.others.inside.channels.items ≡ count = ap length (c.others.view_is ∙ c.all-others.ensures) ∙ length-range_with_len 0 count in
    let four = c.rules.ensures.set.at_least_four in
    (omega arith, omega arith)

pub invariant_of-others : goal.invariant_of-others
invariant_of-others c =
    let count = length (set_of c.args.set.now).moduli in
    let size : length c.others.inside.channels.items ≡ count = ap length (c.others.view_is ∙ c.all-others.ensures) ∙ length-range_with_len 0 count in
    let four = c.rules.ensures.set.at_least_four in
    subst IsChoice (sym c.remove.ensures.items) (IsChoice-remove _ _ (omega arith) (omega arith) c.others.invariant)
