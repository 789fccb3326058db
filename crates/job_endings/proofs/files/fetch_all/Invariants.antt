use Rattle.std.proofs.Common.{◌≡◌, ◌≤◌, All, length, map, drop, string_bytes}
use Rattle.job_endings.specs.Files.{FetchesFiles, Given, file_limit}
use Rattle.job_endings.proofs.FileLemmas.{with_texts}
use Rattle.job_endings.proofs.files.fetch_all.Given as goal

-- what fetches the files that are left, after the texts so far, fetches all
abbrev pub invariant-loop-file : goal.invariant-loop-file
invariant-loop-file g l = record {
  onward : (given : Given) (new : _) → FetchesFiles g.S.Shelf.fetches g.S.Shelf.state (map string_bytes l.words) l.shelf (drop l.file-index l.files) given new
      → FetchesFiles g.S.Shelf.fetches g.S.Shelf.state (map string_bytes l.words) l.initial.shelf l.files (with_texts (map (λ text. text.items) l.texts.items) given) new;
  short : All (λ text. length text.items ≤ file_limit) l.texts.items;
  room : length l.texts.items ≡ l.file-index;
}
