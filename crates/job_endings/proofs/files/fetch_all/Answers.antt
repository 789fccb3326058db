use Rattle.std.proofs.Common.{ℕ, List, Option, None, Err, Ok, ◌≡◌, ◌<◌, ◌≤◌, ◌∷◌, ◌++◌, ◌+◌, [], All, map, drop, get_or, length, string_bytes, inl, inr, refl, sym, subst, ap, ◌∙◌, add-one, drop-cons, arith}
use Rattle.std.proofs.lemmas.List.{drop_all, map-append}
use Rattle.std.proofs.lemmas.List.Elements.{All-push}
use Rattle.word_readers.specs.declared.operands.FileWord.{FileWord}
use Rattle.job_endings.specs.Files.{FetchesFiles, Given, file_limit, with_text}
use Rattle.job_endings.proofs.FileLemmas.{with_texts, with_texts-Ok, with_texts-Err, with_texts-push}
use Rattle.job_endings.proofs.files.fetch_all.Goals as goal

-- the files from a place on are the one there and those after it
files_at : (files : List (Option FileWord)) (i : ℕ) → i < length files → drop i files ≡ get_or files i None ∷ drop (i + 1) files
files_at files i some = rw (add-one, drop-cons files i None)

pub returns-in-Err-clause-fetched : goal.returns-in-Err-clause-fetched
returns-in-Err-clause-fetched g c =
    let files = c.args.files.now in
    let words = map string_bytes c.args.words.now in
    let new = c.fetch_named.new.shelf in
    let texts = map (λ text. text.items) c.loop-file.texts.items in
    let ends : List (Option FileWord) → Type 0 = λ left. FetchesFiles g.S.Shelf.fetches g.S.Shelf.state words c.loop-file.shelf left (Err c.in-Err.stop) new in
    let left = subst ends (sym (files_at files c.loop-file.file-index c.loop-file-test.true)) (inr (c.in-Err.stop, c.in-Err.ensures.stops, refl)) in
    let all : Given → Type 0 = λ given. FetchesFiles g.S.Shelf.fetches g.S.Shelf.state words c.args.shelf.now files given new in
    subst all (with_texts-Err texts c.in-Err.stop) (c.loop-file.invariant.onward (Err c.in-Err.stop) new left)

pub loop-file-preserved : goal.loop-file-preserved
loop-file-preserved g c =
    let files = c.args.files.now in
    let words = map string_bytes c.args.words.now in
    let mid = c.fetch_named.new.shelf in
    let text = c.in-Ok.text.items in
    let texts = map (λ text. text.items) c.loop-file.texts.items in
    let pushed = ap (map (λ text. text.items)) c.push.ensures.items ∙ map-append (λ text. text.items) c.loop-file.texts.items (c.in-Ok.text ∷ []) in
    record {
      onward = λ given new rest.
          let step : List (Option FileWord) → Type 0 = λ left. FetchesFiles g.S.Shelf.fetches g.S.Shelf.state words c.loop-file.shelf left (with_text text given) new in
          let left = subst step (sym (files_at files c.loop-file.file-index c.loop-file-test.true)) (inl (mid, text, given, c.in-Ok.ensures.whole, rest, refl)) in
          let all : Given → Type 0 = λ given. FetchesFiles g.S.Shelf.fetches g.S.Shelf.state words c.args.shelf.now files given new in
          let is = ap (λ ts. with_texts ts given) pushed ∙ with_texts-push texts text given in
          subst all (sym is) (c.loop-file.invariant.onward (with_text text given) new left);
      short = rw c.push.ensures.items (All-push (λ text. length text.items ≤ file_limit) c.loop-file.texts.items c.in-Ok.text c.loop-file.invariant.short c.in-Ok.ensures.short);
      room = c.push.ensures.len ∙ ap (λ n. n + 1) c.loop-file.invariant.room;
    }

pub returns-clause-fetched : goal.returns-clause-fetched
returns-clause-fetched g c =
    let files = c.args.files.now in
    let words = map string_bytes c.args.words.now in
    let shelf = c.loop-file.shelf in
    let texts = map (λ text. text.items) c.loop-file.texts.items in
    let ends : List (Option FileWord) → Type 0 = λ left. FetchesFiles g.S.Shelf.fetches g.S.Shelf.state words shelf left (Ok []) shelf in
    let over : length files ≤ c.loop-file.file-index = omega arith in
    let left = subst ends (sym (drop_all c.loop-file.file-index files over)) (refl, refl) in
    let all : Given → Type 0 = λ given. FetchesFiles g.S.Shelf.fetches g.S.Shelf.state words c.args.shelf.now files given shelf in
    subst all (with_texts-Ok texts) (c.loop-file.invariant.onward (Ok []) shelf left)
