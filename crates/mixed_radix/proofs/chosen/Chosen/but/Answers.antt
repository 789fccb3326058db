use Rattle.std.proofs.Common.{◌≡◌, ◌+◌, length, arith, ap, ◌∙◌, sym, subst}
use Rattle.std.specs.List.{range_with_len}
use Rattle.std.proofs.lemmas.List.Edits.{length-remove}
use Rattle.std.proofs.lemmas.List.FromFn.{length-range_with_len}
use Rattle.moduli_sets.specs.Moduli.{set_of}
use Rattle.mixed_radix.specs.Chosen.{IsChoice}
use Rattle.mixed_radix.proofs.ChosenLemmas.{IsChoice-remove}
use Rattle.mixed_radix.proofs.chosen.Chosen.but.Goals as goal

pub remove-requires : goal.remove-requires
remove-requires c =
    let count = length (set_of c.args.set.now).moduli in
    let all = length-range_with_len 0 count in
    let size : length c.rest.inside.channels.items + 1 ≡ count =
    ap (λ xs. length xs + 1) (c.rest.view_is ∙ c.without-rest.ensures) ∙ length-remove (range_with_len 0 count) _ (omega arith) ∙ all in
    (omega arith, omega arith)

pub invariant_of-rest : goal.invariant_of-rest
invariant_of-rest c =
    let count = length (set_of c.args.set.now).moduli in
    let all = length-range_with_len 0 count in
    let size : length c.rest.inside.channels.items + 1 ≡ count =
    ap (λ xs. length xs + 1) (c.rest.view_is ∙ c.without-rest.ensures) ∙ length-remove (range_with_len 0 count) _ (omega arith) ∙ all in
    let four = c.rules.ensures.set.at_least_four in
    subst IsChoice (sym c.remove.ensures.items) (IsChoice-remove _ _ (omega arith) (omega arith) c.rest.invariant)
