use Rattle.std.proofs.Common.{◌≡◌, ◌+◌, ◌<◌, ◌==◌, length, take, inr, refl, sym, ap, subst, ◌∙◌, tests, rules, arith}
use Rattle.std.specs.Prelude.{if◌then◌else◌}
use Rattle.std.specs.Str.Lines.{strip_carriage_return}
use Rattle.std.proofs.lemmas.Iterator.{YieldsList}
use Rattle.std.proofs.lemmas.Iterator.Consumers.{YieldsList-at, YieldsList-end, YieldsList-turn}
use Rattle.std.proofs.lemmas.Iterator.Splits.{YieldsList-from_slice_split}
use Rattle.std.proofs.lemmas.List.{length_push}
use Rattle.plain_text.specs.Lines.{line_feeds}
use Rattle.assembler.specs.Words.{said_in}
use Rattle.assembler.specs.Assembly.{IsRefusal, line}
use Rattle.assembler.specs.Taken.{IsRead}
use Rattle.assembler.proofs.PassedLemmas.{passed_on}
use Rattle.assembler.proofs.ReadLemmas.{instructions-below, length-parts_of, length-read, length-said_in, lines-are, parts_of, read-all, read-more, refused-here, words_at}
use Rattle.assembler.proofs.assembling.assemble.Given as given
use Rattle.assembler.proofs.assembling.assemble.Goals as goal
use Rattle.assembler.proofs.assembling.assemble.Goals.{After-of, In-None}

-- the words of the line that was read
at : (c : After-of) → (length c.loop-part.yielded < length (said_in c.args.text.now)) × (c.of.result ≡ line (said_in c.args.text.now) (length c.loop-part.yielded))
at c =
    let text = c.args.text.now in
    let i = length c.loop-part.yielded in
    let part = c.in-Some.part.now in
    let split = c.split-part-items.ensures in
    let parts : YieldsList (given.iterator-loop-part).next_gives (λ x. x.now) c.into_iter-part-iterator.result (parts_of text) =
    YieldsList-at {t = c.split-part-items.result} (cc) (YieldsList-from_slice_split _ (λ b. b == 10) text split.rest split.done split.closure (λ x b q k. search (rules, tests))) in
    let turn = YieldsList-turn parts c.loop-part.yielded _ c.loop-part.yielded_by _ _ c.in-Some.part c.in-Some.is c.next.ensures.steps in
    let is_last : (c.loop-part.number + 1 == c.line_feeds.result + 1) ≡ (i + 1 == line_feeds text + 1) =
    ap (λ n. n + 1 == c.line_feeds.result + 1) c.loop-part.invariant.counted ∙ ap (λ n. i + 1 == n + 1) c.line_feeds.ensures.count in
    words_at text i part c.line_of-line.result.now c.of.result turn (c.line_of-line.ensures ∙ ap (λ b. if b then part else strip_carriage_return part) is_last) c.of.ensures

pub with_line-requires : goal.with_line-requires
with_line-requires c =
    let text = c.args.text.now in
    let i = length c.loop-part.yielded in
    let here = at (goal.at.with_line-requires c).After-of in
    instructions-below (take i (said_in text)) c.loop-part.program (c.loop-part.number + 1) c.loop-part.invariant.read (omega (arith, length-read text i c.of.result here, c.loop-part.invariant.counted))

pub returns-in_err-program : goal.returns-in_err-program
returns-in_err-program c =
    let text = c.args.text.now in
    let i = length c.loop-part.yielded in
    let words = c.of.result in
    let fault = c.in_err-program.field-0.0 in
    let here = at (goal.at.returns-in_err-program c).After-of in
    passed_on _ (IsRefusal text) fault c.from_residual.result c.from_residual.ensures.1
    (refused-here text i words here fault (c.in_err-program.ensures (take i (said_in text)) c.loop-part.invariant.read (omega (arith, length-read text i words here, c.loop-part.invariant.counted))))

pub loop-part-preserved : goal.loop-part-preserved
loop-part-preserved c =
    let text = c.args.text.now in
    let i = length c.loop-part.yielded in
    let words = c.of.result in
    let more = length_push c.loop-part.yielded c.in-Some.part in
    let here = at (goal.at.loop-part-preserved c).After-of in
    let program = c.in_ok-program.program in
    record {
      counted = omega arith;
      read = subst (λ n. IsRead (take n (said_in text)) program) (sym more)
          (read-more text i words here program (c.in_ok-program.ensures (take i (said_in text)) c.loop-part.invariant.read (omega (arith, length-read text i words here, c.loop-part.invariant.counted))));
    }

-- all lines are read
all_read : (c : In-None) → IsRead (said_in c.args.text.now) c.loop-part.program
all_read c =
    let text = c.args.text.now in
    let split = c.split-part-items.ensures in
    let parts : YieldsList (given.iterator-loop-part).next_gives (λ x. x.now) c.into_iter-part-iterator.result (parts_of text) =
    YieldsList-at {t = c.split-part-items.result} (cc) (YieldsList-from_slice_split _ (λ b. b == 10) text split.rest split.done split.closure (λ x b q k. search (rules, tests))) in
    let over = YieldsList-end parts c.loop-part.yielded _ c.loop-part.yielded_by _ _ c.in-None.is c.next.ensures.steps in
    read-all text (length c.loop-part.yielded) c.loop-part.program over.1 c.loop-part.invariant.read

pub object-requires : goal.object-requires
object-requires c =
    let text = c.args.text.now in
    let taken = subst (IsRead (said_in text)) c.in-Some-program.is (all_read (goal.at.object-requires c).In-None) in
    omega (arith, lines-are (said_in text) c.in-Some-program.program taken, length-said_in text, length-parts_of text, c.line_feeds.ensures.count, c.line_feeds.ensures.within, c.requires)

pub returns-in-Some-program : goal.returns-in-Some-program
returns-in-Some-program c =
    let text = c.args.text.now in
    c.object.ensures text (subst (IsRead (said_in text)) c.in-Some-program.is (all_read (goal.at.returns-in-Some-program c).In-None))

pub returns-in-None-program : goal.returns-in-None-program
returns-in-None-program c =
    inr (refl, subst (IsRead (said_in c.args.text.now)) c.in-None-program.is (all_read (goal.at.returns-in-None-program c).In-None))
