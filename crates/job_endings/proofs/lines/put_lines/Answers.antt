use Rattle.std.proofs.Common.{List, ℕ, [], ◌∷◌, ◌++◌, ◌+◌, take, inr, refl, sym, subst, ◌∙◌, ap}
use Rattle.std.proofs.lemmas.List.{take_more}
use Rattle.outside.specs.Sink.{WroteAll, BrokeOff}
use Rattle.outside.proofs.Runs.{WroteAll-none, WroteAll-push, BrokeOff-push}
use Rattle.job_endings.proofs.lines.put_lines.Goals as goal

pub loop-line-init : goal.loop-line-init
loop-line-init g c = WroteAll-none c.args.sink.now

pub loop-line-preserved : goal.loop-line-preserved
loop-line-preserved g c =
    let wrote : List (List ℕ) → Type 0 = λ lines. WroteAll g.K.Sink.puts g.K.Sink.state c.args.sink.now lines c.put.new.self in
    let more = ap (λ line. take c.loop-line.line-index c.args.lines.now ++ line ∷ []) (c.as_slice.ensures ∙ c.line-item.is) ∙ sym (take_more c.args.lines.now c.loop-line.line-index c.line-item.result c.loop-line-test.true) in
    subst wrote more (WroteAll-push c.as_slice.result.now c.put.new.self c.loop-line.invariant c.in-Done.ensures.leaves c.put.ensures.late c.put.ensures.puts)

pub returns-in-Failed : goal.returns-in-Failed
returns-in-Failed g c =
    let broke : List (List ℕ) → Type 0 = λ lines. BrokeOff g.K.Sink.puts g.K.Sink.state c.args.sink.now lines c.put.new.self in
    let more = ap (λ line. take c.loop-line.line-index c.args.lines.now ++ line ∷ []) (c.as_slice.ensures ∙ c.line-item.is) ∙ sym (take_more c.args.lines.now c.loop-line.line-index c.line-item.result c.loop-line-test.true) in
    inr (refl, (c.loop-line.line-index + 1, subst broke more (BrokeOff-push c.as_slice.result.now c.put.new.self c.loop-line.invariant c.in-Failed.ensures.leaves c.put.ensures.late c.put.ensures.puts)))
