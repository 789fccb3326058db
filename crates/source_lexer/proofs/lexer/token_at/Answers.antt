use Rattle.std.proofs.Common.{sym, ap, ◌∙◌, ◌≡◌, true, get_or}
use Rattle.std.specs.Char.{is_ascii_alphabetic, is_ascii_digit}
use Rattle.source_lexer.proofs.LongestPrefixes.{first_is, word_prefix, longest_word, longest_number}
use Rattle.source_lexer.proofs.lexer.token_at.Goals as goal

pub word_kind-requires : goal.word_kind-requires
word_kind-requires c =
    let text = c.args.text.now in
    let first = first_is text c.in_ok-first.first.now c.in_ok-first.ensures.value in
    let letter : is_ascii_alphabetic (get_or text 0 0) ≡ true = ap is_ascii_alphabetic first.1 ∙ sym c.is_ascii_alphabetic.ensures.value ∙ c.if-is_ascii_alphabetic.true in
    rw c.name_len-len.ensures (word_prefix text first.0 letter)

pub returns-then-is_ascii_alphabetic : goal.returns-then-is_ascii_alphabetic
returns-then-is_ascii_alphabetic c =
    let text = c.args.text.now in
    let first = first_is text c.in_ok-first.first.now c.in_ok-first.ensures.value in
    let letter : is_ascii_alphabetic (get_or text 0 0) ≡ true = ap is_ascii_alphabetic first.1 ∙ sym c.is_ascii_alphabetic.ensures.value ∙ c.if-is_ascii_alphabetic.true in
    rw c.name_len-len.ensures (longest_word text _ first.0 letter (rw c.name_len-len.ensures at c.word_kind.ensures))

pub returns-then-is_ascii_digit : goal.returns-then-is_ascii_digit
returns-then-is_ascii_digit c =
    let text = c.args.text.now in
    let first = first_is text c.in_ok-first.first.now c.in_ok-first.ensures.value in
    let digit : is_ascii_digit (get_or text 0 0) ≡ true = ap is_ascii_digit first.1 ∙ sym c.is_ascii_digit.ensures.value ∙ c.if-is_ascii_digit.true in
    rw c.digits_len.ensures (longest_number text first.0 digit)
