use Rattle.std.proofs.Common.{◌≡◌, false, codes, sym, rules, arith}
use Rattle.std.specs.Str.{bytes_eq}
use Rattle.plain_text.proofs.WholeNumbers.{whole_number-by_count}
use Rattle.fault_book.proofs.NumberWords.{turn_of-digits, turn_of-other}
use Rattle.fault_book.proofs.schedule.turn_of.Goals as goal

pub returns-then-digits_len-word : goal.returns-then-digits_len-word
returns-then-digits_len-word c =
    let not_control : bytes_eq c.args.word.now (codes "C") ≡ false = search rules in
    sym (turn_of-other c.args.channels c.args.word.now c.requires.word not_control (λ same. omega arith))

pub number_up_to-requires : goal.number_up_to-requires
number_up_to-requires c = whole_number-by_count c.args.word.now c.requires.word (omega arith)

pub returns : goal.returns
returns c =
    let not_control : bytes_eq c.args.word.now (codes "C") ≡ false = search rules in
    let is = turn_of-digits c.args.channels c.args.word.now not_control (whole_number-by_count c.args.word.now c.requires.word (omega arith)) in
    search rules
