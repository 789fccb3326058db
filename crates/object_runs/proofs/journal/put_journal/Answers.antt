use Rattle.std.proofs.Common.{List, ℕ, ◌∷◌, ◌++◌, ◌+◌, [], map, take, inr, refl, sym, subst, ◌∙◌, ap}
use Rattle.std.proofs.lemmas.List.{map_more, take-map}
use Rattle.outside.specs.Sink.{WroteAll, BrokeOff}
use Rattle.outside.proofs.Runs.{WroteAll-none, WroteAll-push, BrokeOff-push}
use Rattle.object_runs.specs.RunText.{journal_line}
use Rattle.object_runs.proofs.journal.put_journal.Goals as goal

pub loop-entry-init : goal.loop-entry-init
loop-entry-init g c = WroteAll-none c.args.sink.now

pub loop-entry-preserved : goal.loop-entry-preserved
loop-entry-preserved g c =
    let i = c.loop-entry.entry-index in
    let entries = c.args.entries.now in
    let wrote : List (List ℕ) → Type 0 = λ lines. WroteAll g.K.Sink.puts g.K.Sink.state c.args.sink.now lines c.put.new.self in
    let more = ap (λ line. map journal_line (take i entries) ++ line ∷ []) (c.as_slice.ensures ∙ c.journal_line-line.ensures) ∙ sym (map_more journal_line entries i _ c.loop-entry-test.true) in
    subst wrote more (WroteAll-push c.as_slice.result.now c.put.new.self c.loop-entry.invariant c.in-Done.ensures.leaves c.put.ensures.late c.put.ensures.puts)

pub returns-in-Failed : goal.returns-in-Failed
returns-in-Failed g c =
    let i = c.loop-entry.entry-index in
    let entries = c.args.entries.now in
    let broke : List (List ℕ) → Type 0 = λ lines. BrokeOff g.K.Sink.puts g.K.Sink.state c.args.sink.now lines c.put.new.self in
    let more = ap (λ line. map journal_line (take i entries) ++ line ∷ []) (c.as_slice.ensures ∙ c.journal_line-line.ensures) ∙ sym (map_more journal_line entries i _ c.loop-entry-test.true) in
    let all = subst broke (more ∙ sym (take-map journal_line (i + 1) entries)) (BrokeOff-push c.as_slice.result.now c.put.new.self c.loop-entry.invariant c.in-Failed.ensures.leaves c.put.ensures.late c.put.ensures.puts) in
    inr (refl, (i + 1, all))
