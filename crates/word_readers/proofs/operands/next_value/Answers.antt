use Rattle.std.proofs.Common.{◌≡◌, None, Some, [], get_or, map, string_bytes, sym, ap, ◌∙◌, arith}
use Rattle.std.proofs.lemmas.List.{length-map}
use Rattle.word_readers.specs.Options.{value_in}
use Rattle.word_readers.proofs.OperandLemmas.{read_from-found, read_from-passed}
use Rattle.word_readers.proofs.OptionLemmas.{value_read}
use Rattle.word_readers.proofs.WordsAt.{word_at}
use Rattle.word_readers.proofs.operands.next_value.Goals as goal

pub returns-in-Some-clause-value : goal.returns-in-Some-clause-value
returns-in-Some-clause-value c =
    let name = c.args.name.now in
    let words = c.args.words.now in
    let i = c.loop-i.i in
    let same = word_at string_bytes words i c.index-words-i.result c.as_str.result.now c.loop-i-test.true
    c.index-words-i.is c.as_str.ensures.value in
    let read : value_in name (get_or (map string_bytes words) i [])
    ≡ Some c.in-Some.value.now = sym (c.in-Some.ensures.value ∙ ap (value_in name) same) in
    c.loop-i.invariant ∙ read_from-found (value_in name) (map string_bytes words) i c.in-Some.value.now
    (omega (arith, length-map words string_bytes)) read

pub loop-i-preserved : goal.loop-i-preserved
loop-i-preserved c =
    let name = c.args.name.now in
    let words = c.args.words.now in
    let i = c.loop-i.i in
    let same = word_at string_bytes words i c.index-words-i.result c.as_str.result.now c.loop-i-test.true
    c.index-words-i.is c.as_str.ensures.value in
    let read : value_in name (get_or (map string_bytes words) i [])
    ≡ None = sym (ap value_read (sym c.in_default.is) ∙ c.value_in.ensures.value ∙ ap (value_in name) same) in
    c.loop-i.invariant ∙ read_from-passed (value_in name) (map string_bytes words) i
    (omega (arith, length-map words string_bytes)) read
