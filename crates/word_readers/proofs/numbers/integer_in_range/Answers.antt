use Rattle.std.proofs.Common.{◌≡◌, pos, sym, ap, ◌∙◌, of_z, to_z, nat_abs, arith, rules}
use Rattle.std.specs.Int.{w128}
use Rattle.std.proofs.lemmas.Bool.Decides.{nat_tests}
use Rattle.std.proofs.lemmas.Int.{ints}
use Rattle.moduli_sets.specs.Name.{set_of_name}
use Rattle.moduli_sets.specs.Set.{range_bound}
use Rattle.word_readers.proofs.IntegerLemmas.{integer_in_range-none, integer_in_range-up_to, integer_in_range-within}
use Rattle.word_readers.proofs.numbers.integer_in_range.Goals as goal
use Rattle.word_readers.proofs.numbers.integer_in_range.Goals.{then-not-is_integer-via-then-not-is_integer, then-not-is_integer-via-else-not-is_integer+then-unsigned_part-gt-DIGITS}

pub returns-then-not-is_integer-clause-value : goal.returns-then-not-is_integer-clause-value
returns-then-not-is_integer-clause-value c =
    sym (integer_in_range-none c.args.set c.args.word.now (λ whole short. elim c.then-not-is_integer.branch [
      | then-not-is_integer-via-then-not-is_integer w ↦ grind (arith, nat_tests)
      | then-not-is_integer-via-else-not-is_integer+then-unsigned_part-gt-DIGITS w ↦ grind (arith, nat_tests)
    ]))

pub returns : goal.returns
returns c =
    let is_bound : c.bound.result ≡ pos (range_bound (set_of_name c.args.set)) = c.bound.ensures
    ∙ ap (λ set. pos (range_bound set)) c.of.ensures in
    let limit = nat_abs (to_z w128 (of_z w128 c.bound.result)) in
    let value = integer_in_range-up_to c.args.set c.args.word.now limit c.integer_up_to.result (omega (arith, ints))
    (search rules) (search rules) c.integer_up_to.ensures in
    record { value = value; range = integer_in_range-within c.args.set c.args.word.now c.integer_up_to.result value }
