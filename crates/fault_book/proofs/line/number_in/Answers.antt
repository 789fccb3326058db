use Rattle.std.proofs.Common.{◌≤◌, arith}
use Rattle.plain_text.specs.Digits.{value_of_digits}
use Rattle.plain_text.proofs.WholeNumbers.{whole_number-by_count}
use Rattle.fault_book.proofs.NumberWords.{is_number-digits, is_number-other}
use Rattle.fault_book.proofs.line.number_in.Goals as goal

pub returns-then-digits_len-word : goal.returns-then-digits_len-word
returns-then-digits_len-word c = is_number-other c.args.most c.args.word.now c.requires (λ same. omega arith)

pub number_up_to-requires : goal.number_up_to-requires
number_up_to-requires c = whole_number-by_count c.args.word.now c.requires (omega arith)

pub returns : goal.returns
returns c =
    let value = c.in_ok-number.ensures.0 in
    let small : value_of_digits c.args.word.now ≤ c.args.most = omega arith in (
      is_number-digits c.args.most c.args.word.now (whole_number-by_count c.args.word.now c.requires (omega arith)) small,
      value,
      omega arith,
    )
