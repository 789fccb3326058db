use Rattle.std.proofs.Common.{◌+◌, ◌<◌, length, map, string_bytes, sym, subst, ap, ◌∙◌, ◌≤◌, arith}
use Rattle.std.specs.List.{filter_map}
use Rattle.std.proofs.lemmas.List.{length-map}
use Rattle.word_readers.specs.Options.{value_in}
use Rattle.word_readers.proofs.OptionLemmas.{HasFound, HasFound-end, HasFound-first, HasFound-passed, HasFound-second, value_read}
use Rattle.word_readers.proofs.WordsAt.{word_at}
use Rattle.word_readers.proofs.options.option_value.Goals as goal
use Rattle.word_readers.proofs.options.option_value.Goals.{in-Some+else-is_some, in_default}

pub returns-then-is_some : goal.returns-then-is_some
returns-then-is_some c =
    let name = c.args.name.now in
    let rest = c.after_command-rest.result.now in
    let i = c.loop-word.word-index in
    let same = word_at string_bytes rest i c.word-item.result c.as_str.result.now c.loop-word-test.true c.word-item.is
    c.as_str.ensures.value in
    let second = HasFound-second name (map string_bytes rest) i c.loop-word.found c.in-Some.value
    (omega (arith, length-map rest string_bytes)) (sym c.is_some.ensures ∙ c.if-is_some.true) c.loop-word.invariant
    (c.in-Some.ensures.value ∙ ap (value_in name) same) in
    subst (λ words. 2 ≤ length (filter_map (value_in name) words)) c.after_command-rest.ensures second

pub loop-word-preserved : goal.loop-word-preserved
loop-word-preserved c =
    let name = c.args.name.now in
    let rest = c.after_command-rest.result.now in
    let i = c.loop-word.word-index in
    let some : i < length (map string_bytes rest) = omega (arith, length-map rest string_bytes) in
    let same = word_at string_bytes rest i c.word-item.result c.as_str.result.now c.loop-word-test.true c.word-item.is
    c.as_str.ensures.value in
    let found = HasFound name (map string_bytes rest) (i + 1) in
    elim c.match-value_in.branch [
      | in-Some+else-is_some w ↦ subst found (sym w.found-is) (HasFound-first name (map string_bytes rest) i c.loop-word.found
          w.in-Some.value some (sym w.is_some.ensures ∙ w.if-is_some.false) c.loop-word.invariant
          (w.in-Some.ensures.value ∙ ap (value_in name) same))
      | in_default w ↦ subst found (sym w.found-is) (HasFound-passed name (map string_bytes rest) i c.loop-word.found some
          c.loop-word.invariant (ap value_read (sym w.in_default.is) ∙ c.value_in.ensures.value ∙ ap (value_in name) same))
    ]

pub returns : goal.returns
returns c =
    let rest = c.after_command-rest.result.now in
    let found = HasFound-end c.args.name.now (map string_bytes rest) c.loop-word.word-index c.loop-word.found
    (omega (arith, length-map rest string_bytes)) c.loop-word.invariant in
    ap (filter_map (value_in c.args.name.now)) (sym c.after_command-rest.ensures) ∙ found
