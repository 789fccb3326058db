use Rattle.std.proofs.Common.{◌≡◌, [], Some, None, Ok, Err, map, refl, sym, subst, ap, ◌∙◌}
use Rattle.std.specs.Option.{option_map_or}
use Rattle.command_words.specs.Words.{job_of_words}
use Rattle.job_endings.specs.declared.refusal.Refusal.TheVariants.{Usage}
use Rattle.job_endings.specs.Files.{FetchesFiles}
use Rattle.rnm_engine.specs.Jobs.{refused, IsDone, IsOwn, files_of_job}
use Rattle.rnm_engine.specs.Answer.{IsAnswer, IsJobAnswer, files_of_words, words_of}
use Rattle.rnm_engine.proofs.AnswerLemmas.{Does-as, stop_does}
use Rattle.rnm_engine.proofs.top_call.done.Goals as goal

pub returns-in_default-clause-answer : goal.returns-in_default-clause-answer
returns-in_default-clause-answer g c =
    let words = words_of c.args.words.now in
    let none : job_of_words words ≡ None = sym c.in_default.ensures.value in
    let files : files_of_words words ≡ [] = ap (λ job. option_map_or files_of_job job []) none in
    let shelf = c.args.shelf.now in (
      Ok [],
      subst (λ all. FetchesFiles g.S.Shelf.fetches g.S.Shelf.state words shelf all (Ok []) shelf) (sym files) (refl, refl),
      (subst (λ job. IsJobAnswer job (Ok []) (refused Usage)) (sym none) refl, refl),
    )

pub returns-in-Ok-clause-answer : goal.returns-in-Ok-clause-answer
returns-in-Ok-clause-answer g c =
    let words = words_of c.args.words.now in
    let some : job_of_words words ≡ Some c.in-Some.job = sym c.in-Some.ensures.value in
    let files : c.as_slice.result.now ≡ files_of_words words =
    c.as_slice.ensures.value ∙ c.files_of.ensures.value ∙ sym (ap (λ job. option_map_or files_of_job job []) some) in
    let texts = map (λ text. text.items) c.in-Ok.texts.items in
    let own = rw c.as_slice-in-Ok.ensures.value at c.do_job.ensures.answer in (
      Ok texts,
      subst (λ all. FetchesFiles g.S.Shelf.fetches g.S.Shelf.state words c.args.shelf.now all (Ok texts) c.fetch_all.new.shelf) files c.in-Ok.ensures.fetched,
      Does-as g.K.Sink.puts g.K.Sink.state words c.args.sink.now (IsOwn (IsDone c.in-Some.job texts)) (IsAnswer words (Ok texts))
          (λ answer is. subst (λ job. IsJobAnswer job (Ok texts) answer) (sym some) is) c.do_job.result c.do_job.new.sink own,
    )

pub returns-in-Err-clause-answer : goal.returns-in-Err-clause-answer
returns-in-Err-clause-answer g c =
    let words = words_of c.args.words.now in
    let stop = c.in-Err.stop in
    let some : job_of_words words ≡ Some c.in-Some.job = sym c.in-Some.ensures.value in
    let files : c.as_slice.result.now ≡ files_of_words words =
    c.as_slice.ensures.value ∙ c.files_of.ensures.value ∙ sym (ap (λ job. option_map_or files_of_job job []) some) in
    let sink = c.args.sink.now in (
      Err stop,
      subst (λ all. FetchesFiles g.S.Shelf.fetches g.S.Shelf.state words c.args.shelf.now all (Err stop) c.fetch_all.new.shelf) files c.in-Err.ensures.fetched,
      Does-as g.K.Sink.puts g.K.Sink.state words sink (IsJobAnswer (Some c.in-Some.job) (Err stop)) (IsAnswer words (Err stop))
          (λ answer is. subst (λ job. IsJobAnswer job (Err stop) answer) (sym some) is) (Err stop) sink
          (stop_does g.K.Sink.puts g.K.Sink.state words sink c.in-Some.job stop),
    )
