-- The forms that keep all in memory, and exactly what each call does to them.
use Rattle.std.specs.Prelude.{◌≡◌, ℕ, ◌-◌, ◌<◌, ◌≤◌, ◌==◌, ◌&&◌, ◌||◌, ◌⊎◌, min, Bool, false, not, List, [], ◌∷◌, ◌++◌, length, take, nat_lt, nat_le, Option, Some, None, is_none, unwrap_or, MatchBool, if◌then◌else◌}
use Rattle.std.specs.List.{list_any}
use Rattle.plain_text.specs.Lookup.{Named, lookup}
use Rattle.outside.specs.Faults.{next_count}
use Rattle.outside.specs.Shelf.{ShelfState}
use Rattle.outside.specs.Sink.{SinkState}
use Rattle.outside.specs.declared.shelf.Fetch.{Fetch}
use Rattle.outside.specs.declared.shelf.Fetch.TheVariants.{Whole, TooLong, Failed as FetchFailed, NoMemory}
use Rattle.outside.specs.declared.sink.Put.{Put}
use Rattle.outside.specs.declared.sink.Put.TheVariants.{Done, Failed as PutFailed}

-- a shelf in memory: its files, the numbers of the fetches that are to fail, how many fetches were made, and
-- its count of faults
pub record MemoryFiles : Type 0 where
  pub files : Named (List ℕ)
  pub failing : List ℕ
  pub fetch_count : ℕ
  pub faults : ℕ

-- it tells its files, and other names have none
abbrev pub shelf_state : MemoryFiles → ShelfState
shelf_state shelf = record { faults = shelf.faults; told = Some (record { files = shelf.files; others_empty = false }) }

-- whether the next fetch is to fail, where its name has a file
abbrev pub next_fails : MemoryFiles → Bool
next_fails shelf = list_any (λ number. number == shelf.fetch_count) shelf.failing

-- what copying a file up to a limit into a buffer of this capacity leaves there, by its answer
abbrev pub CopyLeaves : List ℕ → ℕ → ℕ → Fetch → List ℕ → Type 0
CopyLeaves file limit capacity Whole bytes = (length file ≤ limit) × (bytes ≡ file)
CopyLeaves file limit capacity TooLong bytes = (limit < length file) × (bytes ≡ [])
CopyLeaves file limit capacity FetchFailed bytes = ⊥
CopyLeaves file limit capacity NoMemory bytes = (length file ≤ limit) × (capacity < length file) × (bytes ≡ [])

-- how a fetch up to a limit into a buffer of this capacity answers, given the file of the name
abbrev pub FetchAnswers : MemoryFiles → ℕ → ℕ → Option (List ℕ) → Fetch → Type 0
FetchAnswers shelf limit capacity None answer = answer ≡ FetchFailed
FetchAnswers shelf limit capacity (Some bytes) answer = MatchBool (next_fails shelf) (answer ≡ FetchFailed) (MatchBool (nat_lt limit (length bytes)) (answer ≡ TooLong) ((answer ≡ Whole) ⊎ ((answer ≡ NoMemory) × (capacity < length bytes))))

-- the count of faults after a fetch, given the file of the name: a name without one is no fault
abbrev pub faults_after_fetch : MemoryFiles → Option (List ℕ) → ℕ
faults_after_fetch shelf None = shelf.faults
faults_after_fetch shelf (Some bytes) = if next_fails shelf then next_count shelf.faults else shelf.faults

-- the shelf after a fetch of the name
abbrev pub after_fetch : MemoryFiles → List ℕ → MemoryFiles
after_fetch shelf name = record shelf { fetch_count = next_count shelf.fetch_count; faults = faults_after_fetch shelf (lookup name shelf.files) }

-- a sink in memory: its bytes, how many it has room for, the puts that are to fail with how many bytes each
-- takes before, how many puts were made, its count of faults, and whether a put came after a fault
pub record MemoryBytes : Type 0 where
  pub bytes : List ℕ
  pub room : ℕ
  pub failing : List (ℕ × ℕ)
  pub put_count : ℕ
  pub faults : ℕ
  pub late : Bool

-- it tells its bytes
abbrev pub sink_state : MemoryBytes → SinkState
sink_state sink = record { faults = sink.faults; late = sink.late; told = Some sink.bytes }

-- how many bytes the put of this number takes before it fails, where it stands in the list; the first entry counts
abbrev pub listed_len : ℕ → List (ℕ × ℕ) → Option ℕ
listed_len number [] = None
listed_len number (entry ∷ entries) = if entry.0 == number then Some entry.1 else listed_len number entries

-- how many bytes still fit
abbrev pub room_left : MemoryBytes → ℕ
room_left sink = sink.room - length sink.bytes

-- how many of the bytes a put takes
abbrev pub taken_len : MemoryBytes → List ℕ → ℕ
taken_len sink bytes = min (unwrap_or (listed_len sink.put_count sink.failing) (length bytes)) (min (length bytes) (room_left sink))

-- how a put answers: Done where it isn't listed and all fits
abbrev pub put_answer : MemoryBytes → List ℕ → Put
put_answer sink bytes = if is_none (listed_len sink.put_count sink.failing) && nat_le (length bytes) (room_left sink) then Done else PutFailed

-- the count of faults after a put, by its answer
abbrev pub faults_after_put : ℕ → Put → ℕ
faults_after_put faults Done = faults
faults_after_put faults PutFailed = next_count faults

-- the sink after a put of the bytes
abbrev pub after_put : MemoryBytes → List ℕ → MemoryBytes
after_put sink bytes = record sink { bytes = sink.bytes ++ take (taken_len sink bytes) bytes; put_count = next_count sink.put_count; faults = faults_after_put sink.faults (put_answer sink bytes); late = sink.late || not (sink.faults == 0) }
