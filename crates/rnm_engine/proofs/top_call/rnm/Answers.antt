use Rattle.std.proofs.Common.{refl}
use Rattle.job_endings.proofs.FileLemmas.{explained, stays_told, unread_cause}
use Rattle.rnm_engine.specs.Answer.{IsAnswer, files_of_words, words_of}
use Rattle.rnm_engine.proofs.AnswerLemmas.{completes, finished, leaves_sink, unread_ends, usage_ends}
use Rattle.rnm_engine.proofs.top_call.rnm.Goals as goal

pub returns-clause-answer : goal.returns-clause-answer
returns-clause-answer g c =
    let words = words_of c.args.words.now in
    let done = c.done-outcome.ensures.answer in
    record {
      given = done.0;
      fetched = done.1;
      explained = λ held told. explained g.S.Shelf.fetches g.S.Shelf.state words held c.args.shelf.now (files_of_words words) done.0 c.done-outcome.new.shelf told done.1;
      ends = finished g.K.Sink.puts g.K.Sink.state words c.args.sink.now (IsAnswer words done.0) c.done-outcome.result c.done-outcome.new.sink c.finish.result c.finish.new.sink done.2 c.finish.ensures.ends;
    }

pub returns-clause-complete : goal.returns-clause-complete
returns-clause-complete g c =
    completes g.S.Shelf.fetches g.S.Shelf.state g.K.Sink.puts g.K.Sink.state (words_of c.args.words.now) c.args.shelf.now c.args.sink.now c.finish.result c.done-outcome.new.shelf c.finish.new.sink (returns-clause-answer g c)

pub returns-clause-memory : goal.returns-clause-memory
returns-clause-memory g c none = c.finish.ensures.memory (c.done-outcome.ensures.memory none)

pub returns-clause-usage : goal.returns-clause-usage
returns-clause-usage g c none =
    let answered = returns-clause-answer g c in
    usage_ends g.K.Sink.puts g.K.Sink.state (words_of c.args.words.now) c.args.sink.now answered.given c.finish.result c.finish.new.sink none
    (returns-clause-memory g c (rw none refl)) answered.ends

pub returns-clause-unread : goal.returns-clause-unread
returns-clause-unread g c unread =
    let words = words_of c.args.words.now in
    let answered = returns-clause-answer g c in
    let named = unread_ends g.K.Sink.puts g.K.Sink.state words c.args.sink.now answered.given c.finish.result c.finish.new.sink unread answered.ends in
    unread_cause g.S.Shelf.fetches g.S.Shelf.state words c.args.shelf.now (files_of_words words) answered.given c.done-outcome.new.shelf named.0 named.1 answered.fetched

pub returns-clause-sink : goal.returns-clause-sink
returns-clause-sink g c =
    let answered = returns-clause-answer g c in
    leaves_sink g.K.Sink.puts g.K.Sink.state (words_of c.args.words.now) c.args.sink.now answered.given c.finish.result c.finish.new.sink answered.ends

pub returns-clause-told : goal.returns-clause-told
returns-clause-told g c =
    let words = words_of c.args.words.now in
    let done = c.done-outcome.ensures.answer in
    stays_told g.S.Shelf.fetches g.S.Shelf.state words c.args.shelf.now (files_of_words words) done.0 c.done-outcome.new.shelf done.1
