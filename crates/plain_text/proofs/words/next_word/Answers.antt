use Rattle.std.proofs.Common.{◌+◌, arith, sym, ap, ◌∙◌}
use Rattle.plain_text.proofs.WordLemmas.{separators_before, word_bytes, rest_of, words_at-none, words_at-first}
use Rattle.plain_text.proofs.words.next_word.Goals as goal

pub returns-then-start-text : goal.returns-then-start-text
returns-then-start-text c =
    let before = c.separators_len.ensures.count ∙ ap (separators_before c.args.separators.now) (rest_of c.args.text.now c.args.place) in
    words_at-none c.args.separators.now c.args.text.now c.args.place c.requires (ap (λ n. c.args.place + n) (sym before) ∙ c.if-start-text.true)

pub returns : goal.returns
returns c =
    let start = c.args.place + c.separators_len.result in
    let before = c.separators_len.ensures.count ∙ ap (separators_before c.args.separators.now) (rest_of c.args.text.now c.args.place) in
    let bytes = c.word_len.ensures.count ∙ ap (word_bytes c.args.separators.now) (rest_of c.args.text.now start) in
    let first = words_at-first c.args.separators.now c.args.text.now c.args.place start (start + c.word_len.result) (ap (λ n. c.args.place + n) before) (omega arith) (ap (λ n. start + n) bytes) in
    (first.0, omega arith, first.1, omega arith)
