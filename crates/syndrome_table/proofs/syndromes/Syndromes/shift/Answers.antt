use Rattle.std.proofs.Common.{rules, ◌≡◌, pos, ◌*ℤ◌, slice_index_or, FitsSigned, to_z, of_z, sym, ap, subst, ◌∙◌, arith}
use Rattle.std.specs.Int.{w128}
use Rattle.std.proofs.lemmas.Int.{ints, to_z-of_z}
use Rattle.moduli_sets.specs.Moduli.{set_of}
use Rattle.syndrome_table.specs.Entry.{times_of}
use Rattle.syndrome_table.specs.Table.{shift_of}
use Rattle.syndrome_table.proofs.ReadingLemmas.{product_small}
use Rattle.syndrome_table.proofs.syndromes.Syndromes.shift.Goals as goal

pub overflow_mul-result : goal.overflow_mul-result
overflow_mul-result c =
    let cof = slice_index_or c.args.self.now.cofactors c.args.entry.now.channel (pos 0) in
    let times : to_z w128 (of_z w128 c.signed_times.result) ≡ times_of c.args.entry.now = to_z-of_z w128 c.signed_times.result (search rules) ∙ c.signed_times.ensures in
    let kept : to_z w128 (of_z w128 cof) ≡ cof = to_z-of_z w128 cof (search rules) in
    let whole = ap (λ t. t *ℤ to_z w128 (of_z w128 cof)) times ∙ ap (λ z. times_of c.args.entry.now *ℤ z) kept in
    let low = c.requires.shift.low in
    let high = c.requires.shift.high in
    let fits : FitsSigned w128 (shift_of c.args.self.now.cofactors c.args.entry.now) = omega (arith, ints, product_small (set_of c.args.self.now.set) c.rules.ensures.set) in
    subst (FitsSigned w128) (sym whole) fits

pub returns : goal.returns
returns c =
    let cof = slice_index_or c.args.self.now.cofactors c.args.entry.now.channel (pos 0) in
    let times : to_z w128 (of_z w128 c.signed_times.result) ≡ times_of c.args.entry.now = to_z-of_z w128 c.signed_times.result (search rules) ∙ c.signed_times.ensures in
    let kept : to_z w128 (of_z w128 cof) ≡ cof = to_z-of_z w128 cof (search rules) in
    let whole = ap (λ t. t *ℤ to_z w128 (of_z w128 cof)) times ∙ ap (λ z. times_of c.args.entry.now *ℤ z) kept in
    let low = c.requires.shift.low in
    let high = c.requires.shift.high in
    let fits : FitsSigned w128 (shift_of c.args.self.now.cofactors c.args.entry.now) = omega (arith, ints, product_small (set_of c.args.self.now.set) c.rules.ensures.set) in
    ap (λ z. to_z w128 (of_z w128 z)) whole ∙ to_z-of_z w128 (shift_of c.args.self.now.cofactors c.args.entry.now) fits
