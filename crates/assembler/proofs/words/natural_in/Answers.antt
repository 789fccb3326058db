use Rattle.std.proofs.Common.{◌∙◌, sym, arith}
use Rattle.std.proofs.lemmas.Bool.Decides.{nat_tests}
use Rattle.plain_text.proofs.WholeNumbers.{count-whole_number, whole_number-by_count}
use Rattle.assembler.proofs.words.natural_in.Goals as goal
use Rattle.assembler.proofs.words.natural_in.Goals.{then-is_empty-via-then-is_empty, then-is_empty-via-else-is_empty+then-digits_len-word}

pub returns-then-is_empty : goal.returns-then-is_empty
returns-then-is_empty c = elim c.then-is_empty.branch [
  | then-is_empty-via-then-is_empty w ↦ λ places x h. let some = h.0.0 in grind (arith, nat_tests)
  | then-is_empty-via-else-is_empty+then-digits_len-word w ↦ λ places x h. let same = count-whole_number c.args.word.now h.0 in omega arith
]

pub number_up_to-requires : goal.number_up_to-requires
number_up_to-requires c = whole_number-by_count c.args.word.now (grind (arith, nat_tests)) (omega arith)

pub returns : goal.returns
returns c =
    let value = c.in_ok-number.ensures.0 in
    let within = c.in_ok-number.ensures.1 in
    record {
      writes = λ places. (whole_number-by_count c.args.word.now (grind (arith, nat_tests)) (omega arith), value, omega arith);
      only = λ places y h. h.1 ∙ sym value;
    }
