use Rattle.std.proofs.Common.{◌≡◌, [], get_or, map, string_bytes, sym, ap, ◌∙◌, true, false, arith}
use Rattle.std.proofs.lemmas.List.{length-map}
use Rattle.word_readers.specs.Options.{is_option}
use Rattle.word_readers.proofs.OperandLemmas.{operands_from-operand, operands_from-option}
use Rattle.word_readers.proofs.WordsAt.{word_at}
use Rattle.word_readers.proofs.operands.next_operand.Goals as goal

pub returns-then-not-is_option-clause-value : goal.returns-then-not-is_option-clause-value
returns-then-not-is_option-clause-value c =
    let words = c.args.words.now in
    let same = word_at string_bytes words c.loop-i.i c.index-words-i.result c.as_str.result.now c.loop-i-test.true
    c.index-words-i.is c.as_str.ensures.value in
    let operand : is_option (get_or (map string_bytes words) c.loop-i.i [])
    ≡ false = ap is_option (sym same) ∙ sym c.is_option.ensures ∙ c.if-not-is_option.true in
    c.loop-i.invariant ∙ operands_from-operand (map string_bytes words) c.loop-i.i
    (omega (arith, length-map words string_bytes)) operand

pub loop-i-preserved : goal.loop-i-preserved
loop-i-preserved c =
    let words = c.args.words.now in
    let same = word_at string_bytes words c.loop-i.i c.index-words-i.result c.as_str.result.now c.loop-i-test.true
    c.index-words-i.is c.as_str.ensures.value in
    let option : is_option (get_or (map string_bytes words) c.loop-i.i [])
    ≡ true = ap is_option (sym same) ∙ sym c.is_option.ensures ∙ c.if-not-is_option.false in
    c.loop-i.invariant ∙ operands_from-option (map string_bytes words) c.loop-i.i
    (omega (arith, length-map words string_bytes)) option
