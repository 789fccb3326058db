-- When a machine does what a run says.
use Rattle.std.specs.Prelude.{◌≡◌, ℕ, ℤ, pos, List, [], length, Option, Some, None, Result, Ok, Err, slice_index_or, take, drop, ⊤, nat_lt, if◌then◌else◌, slice_set, unsigned_abs}
use Rattle.number_text.specs.Lines.{print_lines}
use Rattle.outside.specs.Sink.{SinkState, WroteAll, BrokeOff}
use Rattle.source_tree.specs.State.{State, with_array}
use Rattle.source_tree.specs.Statement.{nothing_done}
use Rattle.resolved_tree.specs.Meaning.{elsewhere}
use Rattle.source_tree.specs.Run.{Run, Limited, Ending, returned, trapped, spent, limited}
use Rattle.source_meaning.specs.declared.machine.Machine.{Machine}
use Rattle.source_meaning.specs.declared.machine.Stop.{Stop}
use Rattle.source_meaning.specs.declared.machine.Stop.TheVariants.{Trap, Spent, SinkFailed}

-- what a machine holds, as a state
abbrev pub state_of : Machine → State
state_of m = record {
  integers = λ k. slice_index_or m.integers k (pos 0);
  arrays = λ k. slice_index_or m.arrays.items k [];
  input = m.input.now;
}

-- how a run ended, as an answer of the machine tells; where a put failed it tells none
abbrev pub told : {A : Type 0} → Machine → Result A Stop → Option (Ending A)
told m (Ok value) = Some (returned value (state_of m) m.left)
told m (Err (Trap kind line)) = Some (trapped kind line)
told m (Err Spent) = Some spent
told m (Err SinkFailed) = None

-- so many integers that are held, from a number on
abbrev pub held_from : ℕ → ℕ → Machine → List ℤ
held_from k count m = take count (drop k m.held)

-- an answer with them
abbrev pub with_held : ℕ → ℕ → Machine → Result ⊤ Stop → Result (List ℤ) Stop
with_held k count m (Ok done) = Ok (held_from k count m)
with_held k count m (Err stop) = Err stop

-- nothing was declared meanwhile, and as many integers can be held as are declared
pub record SameSizes (before after : Machine) : Type 0 where
  pub integers : length after.integers ≡ length before.integers
  pub held : length after.held ≡ length before.held

-- A run of a machine in which so many integers are declared: it did what the run does within the visits that were left,
-- and nothing was printed.
pub record Computes {A : Type 0} (run : ℕ → Run A) (before : Machine) (result : Result A Stop) (after : Machine) : Type 0 where
  pub sizes : SameSizes before after
  pub silent : length before.held ≡ length before.integers → (limited before.left (run (length before.integers))).prints ≡ []
  pub ends : length before.held ≡ length before.integers → Some (limited before.left (run (length before.integers))).ending ≡ told after result

module _ {K : Type 0} (puts : K → List ℕ → K → Type 0) (state : K → SinkState) where
  -- All that is printed within a limit is put, and it ends as is told; or else a put failed, and what was printed up to
  -- there is put.
  abbrev pub PutsTold : {A : Type 0} → Limited A → K → Option (Ending A) → K → Type 0
  PutsTold limited old (Some ending) new =
      WroteAll puts state old (print_lines limited.prints) new × (limited.ending ≡ ending)
  PutsTold limited old None new = (n : ℕ) × BrokeOff puts state old (take n (print_lines limited.prints)) new

  -- the same of a run that prints
  pub record Follows {A : Type 0} (run : ℕ → Run A) (before : Machine) (old : K) (result : Result A Stop) (after : Machine) (new : K) : Type 0 where
    pub sizes : SameSizes before after
    pub does : length before.held ≡ length before.integers → PutsTold (limited before.left (run (length before.integers))) old (told after result) new

-- an integer into an element of the array of a number
abbrev pub put_element_at : ℕ → ℕ → ℤ → ℤ → State → Run ⊤
put_element_at size k i x state =
    if nat_lt k size then nothing_done (with_array k (slice_set (state.arrays k) (unsigned_abs i) x) state) else elsewhere
