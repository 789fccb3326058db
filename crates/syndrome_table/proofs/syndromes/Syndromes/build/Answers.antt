use Rattle.std.proofs.Common.{rules, ◌≡◌, get_or, slice_index, ap, ◌∙◌, subst, arith}
use Rattle.std.proofs.lemmas.Int.{ints}
use Rattle.std.proofs.lemmas.List.Sorted.{All-permutation, length_permutation, IsNonDecreasingBy-from_sort_by_key}
use Rattle.moduli_sets.specs.Moduli.{set_of}
use Rattle.syndrome_table.specs.declared.table.Entry.{Entry}
use Rattle.syndrome_table.specs.Entry.{entry_key}
use Rattle.syndrome_table.specs.Table.{IsEntry}
use Rattle.syndrome_table.specs.Filling.{IsFilled}
use Rattle.syndrome_table.proofs.ReadingLemmas.{product_small}
use Rattle.syndrome_table.proofs.FilledLemmas.{ascends_sorted, complete_sorted, complete_from_filled, keys_apart}
use Rattle.syndrome_table.proofs.EntryLemmas.{are_syndromes}
use Rattle.syndrome_table.proofs.syndromes.Syndromes.build.Goals as goal

pub invariant_of-result : goal.invariant_of-result
invariant_of-result c =
    let set = set_of c.args.set.now in
    let all = c.rules.ensures.set in
    let one = c.rules.ensures.radius in
    let cofactors = c.cofactors_of-cofactors.result in
    let xs = c.loop-first.table.items in
    let ys = c.sort_by_key.new.self.items in
    let moved = c.in_ok-sort_by_key.ensures.permutation in
    let end : c.loop-first.first ≡ get_or set.moduli set.info 0 = omega (arith, c.loop-first-test.false, c.loop-first.auto.first-end, c.modulus-first-end.ensures.value ∙ ap (slice_index set.moduli) c.info.ensures) in
    let filled = subst (λ n. IsFilled set cofactors xs n 0) end c.loop-first.invariant in
    let key = λ (e : Entry). entry_key e in
    let up = IsNonDecreasingBy-from_sort_by_key key ys c.in_ok-sort_by_key.ensures.sorted (λ a r q k. search rules) in
    record {
      whole = omega (arith, ints, c.information_product_of-product.ensures, product_small set all);
      right = All-permutation (IsEntry set cofactors) xs ys moved filled.right;
      ascends = ascends_sorted xs ys moved (keys_apart xs filled.apart) up;
      complete = complete_sorted set xs ys moved (complete_from_filled set cofactors xs all one c.cofactors_of-cofactors.ensures filled);
      small = omega (arith, length_permutation xs ys moved, filled.small, c.modulus-first-end.ensures.modulus.fits, end);
    }

pub returns-clause-entries : goal.returns-clause-entries
returns-clause-entries c =
    let set = set_of c.args.set.now in
    let all = c.rules.ensures.set in
    let one = c.rules.ensures.radius in
    let cofactors = c.cofactors_of-cofactors.result in
    let xs = c.loop-first.table.items in
    let ys = c.sort_by_key.new.self.items in
    let moved = c.in_ok-sort_by_key.ensures.permutation in
    let end : c.loop-first.first ≡ get_or set.moduli set.info 0 = omega (arith, c.loop-first-test.false, c.loop-first.auto.first-end, c.modulus-first-end.ensures.value ∙ ap (slice_index set.moduli) c.info.ensures) in
    let filled = subst (λ n. IsFilled set cofactors xs n 0) end c.loop-first.invariant in
    let key = λ (e : Entry). entry_key e in
    let up = IsNonDecreasingBy-from_sort_by_key key ys c.in_ok-sort_by_key.ensures.sorted (λ a r q k. search rules) in
    are_syndromes set cofactors ys all one (All-permutation (IsEntry set cofactors) xs ys moved filled.right) (complete_sorted set xs ys moved (complete_from_filled set cofactors xs all one c.cofactors_of-cofactors.ensures filled)) (ascends_sorted xs ys moved (keys_apart xs filled.apart) up)
