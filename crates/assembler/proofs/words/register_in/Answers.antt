use Rattle.std.proofs.Common.{◌≡◌, [], ◌∷◌, Some, arith}
use Rattle.std.proofs.lemmas.Bool.Decides.{Decides-eqb, nat_tests}
use Rattle.std.proofs.lemmas.Slice.Eq.{strip_prefix_is}
use Rattle.plain_text.proofs.WholeNumbers.{count-whole_number, whole_number-by_count}
use Rattle.assembler.proofs.WordReads.{register_digits, register_of_digits}
use Rattle.assembler.proofs.words.register_in.Goals as goal
use Rattle.assembler.proofs.words.register_in.Goals.{then-is_empty-via-then-is_empty, then-is_empty-via-else-is_empty+then-digits-gt-REGISTER_DIGITS, then-is_empty-via-else-is_empty+else-digits-gt-REGISTER_DIGITS+then-digits_len-digits}

pub returns-then-is_empty : goal.returns-then-is_empty
returns-then-is_empty c =
    let digits = c.in_ok-digits.digits.now in
    let is : c.args.word.now ≡ 114 ∷ digits = strip_prefix_is Decides-eqb c.args.word.now (114 ∷ []) (Some c.in_ok-digits.digits) c.in_ok-digits.ensures.cases in
    elim c.then-is_empty.branch [
      | then-is_empty-via-then-is_empty w ↦ λ places r h. let some = (register_digits c.args.word.now digits is places r h).0.0 in grind (arith, nat_tests)
      | then-is_empty-via-else-is_empty+then-digits-gt-REGISTER_DIGITS w ↦ λ places r h. let short = (register_digits c.args.word.now digits is places r h).1 in omega arith
      | then-is_empty-via-else-is_empty+else-digits-gt-REGISTER_DIGITS+then-digits_len-digits w ↦ λ places r h.
          let same = count-whole_number digits (register_digits c.args.word.now digits is places r h).0 in omega arith
    ]

pub number_up_to-requires : goal.number_up_to-requires
number_up_to-requires c = whole_number-by_count c.in_ok-digits.digits.now (grind (arith, nat_tests)) (omega arith)

pub returns : goal.returns
returns c =
    let digits = c.in_ok-digits.digits.now in
    let is : c.args.word.now ≡ 114 ∷ digits = strip_prefix_is Decides-eqb c.args.word.now (114 ∷ []) (Some c.in_ok-digits.digits) c.in_ok-digits.ensures.cases in
    register_of_digits c.args.word.now digits c.in_ok-register.register is (whole_number-by_count digits (grind (arith, nat_tests)) (omega arith)) (omega arith) c.in_ok-register.ensures.0 (omega (arith, c.in_ok-register.ensures.1))
