-- The answer to words: what the top call leaves.
use Rattle.std.specs.Prelude.{◌≡◌, ◌≢◌, ℕ, ◌⊎◌, true, List, [], ◌∷◌, map, String, string_bytes, Option, Some, None, Result, Ok, Err}
use Rattle.std.specs.Option.{option_map_or}
use Rattle.outside.specs.Faults.{Rose}
use Rattle.outside.specs.Shelf.{ShelfFiles, ShelfState}
use Rattle.outside.specs.Sink.{NoPutAfterFault, SinkState, WroteAll}
use Rattle.outside.specs.declared.shelf.Fetch.{Fetch}
use Rattle.word_readers.specs.declared.operands.FileWord.{FileWord}
use Rattle.command_words.specs.declared.job.Job.{Job}
use Rattle.command_words.specs.Words.{job_of_words}
use Rattle.job_endings.specs.declared.status.Status.{Status}
use Rattle.job_endings.specs.declared.status.Status.TheVariants.{NoMemory, Unwritten}
use Rattle.job_endings.specs.declared.refusal.Refusal.TheVariants.{Usage}
use Rattle.job_endings.specs.declared.refusal.Stop.{Stop}
use Rattle.job_endings.specs.declared.refusal.Stop.TheVariants as stop
use Rattle.job_endings.specs.Refusals.{refusal_line, refusal_status}
use Rattle.job_endings.specs.Endings.{EndsPut, EndsWith}
use Rattle.job_endings.specs.Files.{FetchesFiles, Given, IsExplained, given_by}
use Rattle.rnm_engine.specs.Jobs.{Answer, refused, answer_lines, answer_status, is_own, IsDone, files_of_job}

-- words, each as its bytes
abbrev pub words_of : {Z : Type 0} → List (String Z) → List (List ℕ)
words_of words = map string_bytes words

-- the files that the words name
abbrev pub files_of_words : List (List ℕ) → List (Option FileWord)
files_of_words words = option_map_or files_of_job (job_of_words words) []

-- ---- the answer over what fetching the files gave
abbrev pub IsJobAnswer : Option Job → Given → Answer → Type 0
IsJobAnswer None given answer = answer ≡ refused Usage
IsJobAnswer (Some job) (Ok texts) answer = IsDone job texts answer × (is_own answer ≡ true)
IsJobAnswer (Some job) (Err (stop.Refused refusal)) answer = answer ≡ refused refusal
IsJobAnswer (Some job) (Err stop.NoMemory) answer = ⊥

abbrev pub IsAnswer : List (List ℕ) → Given → Answer → Type 0
IsAnswer words given answer = IsJobAnswer (job_of_words words) given answer

-- ---- what is left in the sink
module _ {K : Type 0} (puts : K → List ℕ → K → Type 0) (state : K → SinkState) where
  -- a job ends with an answer put, up to a put that failed; or without memory and with nothing put
  abbrev pub EndsBy : List (List ℕ) → K → (Answer → Type 0) → Status → K → Type 0
  EndsBy words old Is result new =
      ((answer : Answer) × Is answer × EndsPut puts state old (answer_lines words answer) (answer_status answer) result new)
      ⊎ ((result ≡ NoMemory) × WroteAll puts state old [] new)

  -- how a job ends by what its command leaves: what it was refused for is put
  abbrev pub IsFinished : List (List ℕ) → Result Status Stop → K → Status → K → Type 0
  IsFinished words (Ok status) old result new = (result ≡ status) × (new ≡ old)
  IsFinished words (Err (stop.Refused refusal)) old result new = EndsWith puts state old (refusal_line words refusal ∷ []) (refusal_status refusal) result new
  IsFinished words (Err stop.NoMemory) old result new = (result ≡ NoMemory) × (new ≡ old)

  -- what the status says of the sink
  pub record LeavesSink (old : K) (result : Status) (new : K) : Type 0 where
    pub nothing : result ≡ NoMemory → WroteAll puts state old [] new
    pub unwritten : result ≡ Unwritten → Rose (state old).faults (state new).faults
    pub written : result ≢ Unwritten → (state new).faults ≡ (state old).faults
    pub timely : NoPutAfterFault (state old) (state new)

-- ---- what the top call leaves
-- The files are fetched in order, each once, up to the first that isn't whole. What that gives is what the shelf holds,
-- where it tells that and nothing fails; and the job ends with the answer over what it gives.
pub record IsAnswered {S K : Type 0} (fetches : S → List ℕ → ℕ → Fetch → List ℕ → S → Type 0) (shelf_state : S → ShelfState)
    (puts : K → List ℕ → K → Type 0) (sink_state : K → SinkState) (words : List (List ℕ))
    (shelf : S) (sink : K) (result : Status) (shelf_after : S) (sink_after : K) : Type 0 where
  pub given : Given
  pub fetched : FetchesFiles fetches shelf_state words shelf (files_of_words words) given shelf_after
  pub explained : (held : ShelfFiles) → (shelf_state shelf).told ≡ Some held
      → IsExplained words held (Rose (shelf_state shelf).faults (shelf_state shelf_after).faults) (files_of_words words) given
  pub ends : EndsBy puts sink_state words sink (IsAnswer words given) result sink_after

-- Where the shelf tells what it holds, and neither it nor the sink has a fault, the answer over that is put, whole; or
-- memory ran out, and nothing is.
pub record IsComplete {S K : Type 0} (shelf_state : S → ShelfState) (puts : K → List ℕ → K → Type 0) (sink_state : K → SinkState)
    (words : List (List ℕ)) (shelf : S) (sink : K) (result : Status) (shelf_after : S) (sink_after : K) : Type 0 where
  pub whole : (held : ShelfFiles) → (shelf_state shelf).told ≡ Some held
      → ¬ (Rose (shelf_state shelf).faults (shelf_state shelf_after).faults)
      → ¬ (Rose (sink_state sink).faults (sink_state sink_after).faults)
      → ((result ≡ NoMemory) × WroteAll puts sink_state sink [] sink_after)
      ⊎ ((answer : Answer) × IsAnswer words (given_by words held (files_of_words words)) answer
      × (result ≡ answer_status answer) × WroteAll puts sink_state sink (answer_lines words answer) sink_after)
