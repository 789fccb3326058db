-- How a job ends that has something to put: its lines, each in one put, and its status.
use Rattle.std.specs.Prelude.{◌≡◌, ℕ, ◌⊎◌, List, []}
use Rattle.outside.specs.Sink.{SinkState, PutsPieces, WroteAll}
use Rattle.outside.specs.declared.sink.Put.TheVariants.{Done, Failed}
use Rattle.job_endings.specs.declared.status.Status.{Status}
use Rattle.job_endings.specs.declared.status.Status.TheVariants.{NoMemory, Unwritten}

module _ {K : Type 0} (puts : K → List ℕ → K → Type 0) (state : K → SinkState) (old : K) where
  -- with all lines put and this status, or with a put that failed
  abbrev pub EndsPut : List (List ℕ) → Status → Status → K → Type 0
  EndsPut lines status result new =
      ((result ≡ status) × PutsPieces puts state old lines Done new) ⊎ ((result ≡ Unwritten) × PutsPieces puts state old lines Failed new)

  -- so, or without memory and with nothing put
  abbrev pub EndsWith : List (List ℕ) → Status → Status → K → Type 0
  EndsWith lines status result new = EndsPut lines status result new ⊎ ((result ≡ NoMemory) × WroteAll puts state old [] new)
