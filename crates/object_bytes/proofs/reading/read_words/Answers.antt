use Rattle.std.proofs.Common.{rules, ◌≡◌, ◌*◌, ◌++◌, [], ◌∷◌, drop, ap, ◌∙◌}
use Rattle.std.specs.Int.{w128}
use Rattle.std.specs.Int.RustNames.{FitsSigned}
use Rattle.std.proofs.lemmas.Int.{to_z-of_z}
use Rattle.object_bytes.specs.Loading.{words_from}
use Rattle.object_bytes.specs.Record.{integer_at}
use Rattle.object_bytes.proofs.LoopLemmas.{words_from-end, words_from-next}
use Rattle.object_bytes.proofs.reading.read_words.Goals as goal

pub loop-n-preserved : goal.loop-n-preserved
loop-n-preserved c =
    let n = c.loop-n.n in
    let bytes = c.args.bytes.now in
    let words = c.loop-n.words.items in
    let fits : FitsSigned w128 c.integer_at.result = search rules in
    let pushed : c.push.new.self.items ≡ words ++ integer_at (16 * n) bytes ∷ [] = c.in_ok-push.ensures.items ∙ ap (λ x. words ++ x ∷ []) (to_z-of_z w128 c.integer_at.result fits ∙ c.integer_at.ensures) in
    rw pushed (words_from-next c.args.count n bytes words (words_from c.args.count bytes) c.loop-n-test.true c.loop-n.invariant)

pub returns : goal.returns
returns c =
    words_from-end c.args.count c.loop-n.n (drop (16 * c.loop-n.n) c.args.bytes.now) c.loop-n.words.items (words_from c.args.count c.args.bytes.now) c.loop-n-test.false c.loop-n.invariant
