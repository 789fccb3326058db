-- The files of a job: what fetching them gives, and what it gives where the shelf tells what it holds.
use Rattle.std.specs.Prelude.{◌≡◌, ℕ, ◌≤◌, ◌⊎◌, nat_lt, List, [], ◌∷◌, length, Option, Some, None, IsSomeAnd, MatchOption, Result, Ok, Err, if◌then◌else◌}
use Rattle.outside.specs.declared.shelf.Fetch.{Fetch}
use Rattle.outside.specs.declared.shelf.Fetch.TheVariants as fetch
use Rattle.outside.specs.Shelf.{IsFetch, ShelfFiles, ShelfState, file_of}
use Rattle.source_reader.specs.Reading.{text_limit}
use Rattle.word_readers.specs.declared.operands.FileWord.{FileWord}
use Rattle.word_readers.specs.Operands.{file_name}
use Rattle.job_endings.specs.declared.refusal.Refusal.TheVariants.{Unread, TooLong}
use Rattle.job_endings.specs.declared.refusal.Stop.{Stop}
use Rattle.job_endings.specs.declared.refusal.Stop.TheVariants.{Refused, NoMemory}

-- the most bytes that a file may have, as many as a source text
abbrev pub file_limit : ℕ
file_limit = text_limit

-- the most files that a job has
abbrev pub most_files : ℕ
most_files = 5

-- What fetching files gives: their texts, in order, or why there are none.
abbrev pub Given : Type 0
Given = Result (List (List ℕ)) Stop

-- the same, with a text before the others
abbrev pub with_text : List ℕ → Given → Given
with_text text (Ok texts) = Ok (text ∷ texts)
with_text text (Err stop) = Err stop

-- why a fetch of a file ends the fetching, where it does
abbrev pub stop_at : FileWord → Fetch → Option Stop
stop_at file fetch.Whole = None
stop_at file fetch.TooLong = Some (Refused (TooLong file))
stop_at file fetch.Failed = Some (Refused (Unread file))
stop_at file fetch.NoMemory = Some NoMemory

-- ---- on a shelf
module _ {S : Type 0} (fetches : S → List ℕ → ℕ → Fetch → List ℕ → S → Type 0) (state : S → ShelfState) (words : List (List ℕ)) where
  -- the fetch of a file ends the fetching
  pub record StopsAt (old : S) (file : FileWord) (stop : Stop) (new : S) : Type 0 where
    pub answer : Fetch
    pub bytes : List ℕ
    pub fetch : IsFetch fetches state old (file_name words file) file_limit answer bytes new
    pub stops : stop_at file answer ≡ Some stop

  -- a file gives its text; one that isn't named gives the empty text, and nothing is fetched
  abbrev pub GivesText : S → Option FileWord → List ℕ → S → Type 0
  GivesText old None text new = (text ≡ []) × (new ≡ old)
  GivesText old (Some file) text new = IsFetch fetches state old (file_name words file) file_limit fetch.Whole text new

  -- a file ends the fetching; one that isn't named doesn't
  abbrev pub GivesStop : S → Option FileWord → Stop → S → Type 0
  GivesStop old None stop new = ⊥
  GivesStop old (Some file) stop new = StopsAt old file stop new

  -- Files are fetched in order, each once; the first that isn't whole ends it.
  abbrev pub FetchesFiles : S → List (Option FileWord) → Given → S → Type 0
  FetchesFiles old [] given new = (given ≡ Ok []) × (new ≡ old)
  FetchesFiles old (file ∷ files) given new =
      ((mid : S) × (text : List ℕ) × (rest : Given) × GivesText old file text mid × FetchesFiles mid files rest new × (given ≡ with_text text rest))
      ⊎ ((stop : Stop) × GivesStop old file stop new × (given ≡ Err stop))

-- ---- where the shelf tells what it holds
-- what a file gives, by what the shelf holds of it, and what the files after it give
abbrev pub given_by_file : FileWord → Option (List ℕ) → Given → Given
given_by_file file None rest = Err (Refused (Unread file))
given_by_file file (Some text) rest = if nat_lt file_limit (length text) then Err (Refused (TooLong file)) else with_text text rest

module _ (words : List (List ℕ)) (held : ShelfFiles) where
  -- what the files give
  abbrev pub given_by : List (Option FileWord) → Given
  given_by [] = Ok []
  given_by (None ∷ files) = with_text [] (given_by files)
  given_by (Some file ∷ files) = given_by_file file (file_of held (file_name words file)) (given_by files)

  -- a file is there and within the limit
  abbrev pub IsWhole : FileWord → Type 0
  IsWhole file = IsSomeAnd (file_of held (file_name words file)) (λ text. length text ≤ file_limit)

  -- one of the files, before which all are whole: a fault may leave it unread though the shelf holds it
  abbrev pub IsReached : List (Option FileWord) → FileWord → Type 0
  IsReached [] file = ⊥
  IsReached (None ∷ files) file = IsReached files file
  IsReached (Some first ∷ files) file = (file ≡ first) ⊎ (IsWhole first × IsReached files file)

  -- What fetching the files gives: what the shelf holds of them; or memory ran out; or, after a fault, one of them is unread
  -- before which all are whole.
  abbrev pub IsExplained : Type 0 → List (Option FileWord) → Given → Type 0
  IsExplained fault files given =
      (given ≡ given_by files)
      ⊎ ((given ≡ Err NoMemory)
      ⊎ (fault × ((file : FileWord) × IsReached files file × (given ≡ Err (Refused (Unread file))))))

-- one of the files has a name of which this holds
abbrev pub SomeFile : (List ℕ → Type 0) → List (List ℕ) → List (Option FileWord) → Type 0
SomeFile P words [] = ⊥
SomeFile P words (None ∷ files) = SomeFile P words files
SomeFile P words (Some file ∷ files) = P (file_name words file) ⊎ SomeFile P words files
