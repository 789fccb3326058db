use Rattle.std.proofs.Common.{rules, false, ◌∷◌, ◌++◌, [], drop, refl, ap, ◌∙◌, subst}
use Rattle.std.specs.List.{slice_range}
use Rattle.std.proofs.lemmas.Bool.{false≢true}
use Rattle.std.proofs.lemmas.Int.{to_z-of_z}
use Rattle.std.specs.Int.{w128}
use mir.Val.{SFits}
use Rattle.plain_text.specs.Words.{WordAt, white_space, words_from}
use Rattle.number_text.specs.Input.{input_words}
use Rattle.number_text.proofs.InputLemmas.{AreNumbersUpTo, one_more, stops_here}
use Rattle.number_text.proofs.input.read_numbers.Goals as goal

pub returns-then-not-is_integer : goal.returns-then-not-is_integer
returns-then-not-is_integer c =
    let text = c.args.text.now in
    let word : WordAt = record { place = c.in-Some.word.start; bytes = slice_range text c.in-Some.word.start c.in-Some.word.end } in
    let rest = words_from white_space false c.in-Some.word.end (drop c.in-Some.word.end text) in
    let read = subst (λ words. AreNumbersUpTo (input_words text) words c.loop-word.numbers.items) c.in-Some.ensures.0 c.loop-word.invariant.read in
    stops_here (input_words text) rest word c.loop-word.numbers.items read (λ is. absurd (false≢true (c.if-not-is_integer.ensures.1 is)))

pub loop-word-preserved : goal.loop-word-preserved
loop-word-preserved c =
    let text = c.args.text.now in
    let word : WordAt = record { place = c.in-Some.word.start; bytes = slice_range text c.in-Some.word.start c.in-Some.word.end } in
    let rest = words_from white_space false c.in-Some.word.end (drop c.in-Some.word.end text) in
    let read = subst (λ words. AreNumbersUpTo (input_words text) words c.loop-word.numbers.items) c.in-Some.ensures.0 c.loop-word.invariant.read in
    let fits : SFits w128 c.nearest_integer.result = search rules in
    let pushed = c.in_ok-push.ensures.items ∙ ap (λ x. c.loop-word.numbers.items ++ x ∷ []) (to_z-of_z w128 c.nearest_integer.result fits) in
    record {
      within = c.in-Some.ensures.3;
      read = one_more (input_words text) rest word c.loop-word.numbers.items _ c.nearest_integer.result read (c.if-not-is_integer.ensures.0 refl) c.nearest_integer.ensures pushed;
    }
