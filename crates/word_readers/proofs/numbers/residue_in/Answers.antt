use Rattle.std.proofs.Common.{sym, ◌∙◌, arith, rules}
use Rattle.std.proofs.lemmas.Bool.Decides.{nat_tests}
use Rattle.plain_text.proofs.WholeNumbers.{count-whole_number, whole_number-by_count}
use Rattle.word_readers.proofs.ResidueLemmas.{residue_in-none, residue_in-some}
use Rattle.word_readers.proofs.numbers.residue_in.Goals as goal
use Rattle.word_readers.proofs.numbers.residue_in.Goals.{then-is_empty-via-then-is_empty, then-is_empty-via-else-is_empty+then-word-gt-SHORT_DIGITS, then-is_empty-via-else-is_empty+else-word-gt-SHORT_DIGITS+then-digits_len-word}

pub returns-then-is_empty : goal.returns-then-is_empty
returns-then-is_empty c =
    sym (residue_in-none c.args.modulus c.args.word.now (λ whole short. elim c.then-is_empty.branch [
      | then-is_empty-via-then-is_empty w ↦ grind (arith, nat_tests)
      | then-is_empty-via-else-is_empty+then-word-gt-SHORT_DIGITS w ↦ omega arith
      | then-is_empty-via-else-is_empty+else-word-gt-SHORT_DIGITS+then-digits_len-word w ↦ w.if-digits_len-word.true
          (w.digits_len.ensures ∙ count-whole_number c.args.word.now whole)
    ]))

pub number_up_to-requires : goal.number_up_to-requires
number_up_to-requires c = whole_number-by_count c.args.word.now (grind (arith, nat_tests))
    (sym c.digits_len.ensures ∙ c.if-digits_len-word.false)

pub returns : goal.returns
returns c = residue_in-some c.args.modulus c.args.word.now c.in_ok-residue.residue
    (whole_number-by_count c.args.word.now (grind (arith, nat_tests)) (sym c.digits_len.ensures ∙ c.if-digits_len-word.false))
    (search rules) c.in_ok-residue.ensures.0 (omega arith)
