-- From an object's bytes and a run of it to the answer of `exec`.
use Rattle.std.proofs.Common.{◌≡◌, ℕ, ℤ, Bool, true, List, [], ◌++◌, map, length, None, Some, Result, Ok, Err, inl, inr, refl, subst}
use Rattle.std.specs.FinMap.{from_entries}
use Rattle.outside.specs.Sink.{SinkState}
use Rattle.moduli_sets.specs.Name.{set_of_name}
use Rattle.fault_book.specs.Book.{Book}
use Rattle.fault_book.specs.FaultText.{IsBookFault, book_faults, entries_of}
use Rattle.fault_book.specs.declared.reading.BookFault.{BookFault}
use Rattle.fault_book.specs.declared.reading.BookFault.TheVariants as book
use Rattle.fault_book.specs.ScheduleText.{AreTurns, IsScheduleFault}
use Rattle.fault_book.specs.declared.schedule.ScheduleFault.{ScheduleFault}
use Rattle.fault_book.specs.declared.schedule.ScheduleFault.TheVariants as schedule
use Rattle.fault_book.specs.declared.schedule.Turn.{Turn}
use Rattle.number_text.specs.Input.{AreNumbers, input_words}
use Rattle.object_bytes.specs.Loading.{Program}
use Rattle.shown_run.specs.Trace.{RunEnding, halt, trap, damage, spent, ending_of}
use Rattle.job_endings.specs.declared.status.Status.{Status}
use Rattle.job_endings.specs.declared.refusal.Refusal.TheVariants.{Faults}
use Rattle.job_endings.specs.declared.refusal.Stop.{Stop}
use Rattle.job_endings.specs.EndingLines.{ending_status}
use Rattle.object_runs.specs.RunText.{PutsRun, entries_kept, journal_line, run_lines, run_status, told_ending, trace_of}
use Rattle.rnm_engine.specs.Jobs.{Answer, lines, refused, is_own, stop_of_book, stop_of_schedule, IsFaultsAnswer, IsInputAnswer, IsOwn, IsRunOf, IsScheduleAnswer, Does}
use Rattle.rnm_engine.proofs.AnswerLemmas.{Does-as}

pub own_run : (pieces : List (List ℕ)) (e : RunEnding) → is_own (lines pieces (ending_status (told_ending e))) ≡ true
own_run pieces halt = refl
own_run pieces (trap kind line) = refl
own_run pieces (damage number column) = refl
own_run pieces spent = refl

module _ {K : Type 0} (puts : K → List ℕ → K → Type 0) (state : K → SinkState) (old : K) where
  -- the input's numbers are read, and answered
  pub read_in : (input : List ℕ) (Is : List ℤ → Answer → Type 0) (numbers : List ℤ) → AreNumbers (input_words input) numbers
      → (result : Result Status Stop) (new : K) → Does puts state old (IsOwn (Is numbers)) result new → Does puts state old (IsOwn (IsInputAnswer input Is)) result new
  read_in input Is numbers are result new does =
      Does-as puts state [] old (IsOwn (Is numbers)) (IsOwn (IsInputAnswer input Is)) (λ answer (is, own). (inr (numbers, are, is), own)) result new does

  module _ (channels : ℕ) (faults : List ℕ) (Is : Book → Answer → Type 0) where
    -- the faults are refused, or there was no memory
    pub refuses_book : (fault : BookFault) → IsBookFault channels faults fault → Does puts state old (IsOwn (IsFaultsAnswer channels faults Is)) (Err (stop_of_book fault)) old
    refuses_book (book.BadLine n) (more, first) = ((inl (book.BadLine n, more, Faults n, first, refl, refl), refl), refl)
    refuses_book (book.UnknownChannel n) (more, first) = ((inl (book.UnknownChannel n, more, Faults n, first, refl, refl), refl), refl)
    refuses_book (book.Twice n) (more, first) = ((inl (book.Twice n, more, Faults n, first, refl, refl), refl), refl)
    refuses_book book.NoMemory h = refl

    -- the book is read, and answered
    pub booked : (b : Book) → book_faults channels faults ≡ [] → b ≡ from_entries (entries_of faults) → (result : Result Status Stop) (new : K)
        → Does puts state old (IsOwn (Is b)) result new → Does puts state old (IsOwn (IsFaultsAnswer channels faults Is)) result new
    booked b none is result new does =
        Does-as puts state [] old (IsOwn (Is b)) (IsOwn (IsFaultsAnswer channels faults Is))
        (λ answer (holds, own). (inr (none, subst (λ (read : Book). Is read answer) is holds), own)) result new does

  module _ (channels : ℕ) (text : List ℕ) (Is : List Turn → Answer → Type 0) where
    -- the turns are refused, or there was no memory
    pub refuses_turns : (fault : ScheduleFault) → IsScheduleFault channels text fault → Does puts state old (IsOwn (IsScheduleAnswer channels text Is)) (Err (stop_of_schedule fault)) old
    refuses_turns (schedule.BadTurn n) first = ((inl (n, first, refl), refl), refl)
    refuses_turns schedule.NoMemory h = refl

    -- the turns are read, and answered
    pub turned : (turns : List Turn) → AreTurns channels text turns → (result : Result Status Stop) (new : K)
        → Does puts state old (IsOwn (Is turns)) result new → Does puts state old (IsOwn (IsScheduleAnswer channels text Is)) result new
    turned turns are result new does =
        Does-as puts state [] old (IsOwn (Is turns)) (IsOwn (IsScheduleAnswer channels text Is)) (λ answer (is, own). (inr (turns, are, is), own)) result new does

  -- the run
  pub ran : (steps : ℕ) (journal : Bool) (program : Program) (numbers : List ℤ) (b : Book) (turns : List Turn) (result : Status) (new : K)
      → PutsRun puts state (turns, entries_kept journal) b (set_of_name program.set) program.words
      (trace_of b (set_of_name program.set) program.code program.words steps numbers) old result new
      → Does puts state old (IsOwn (IsRunOf steps journal program numbers b turns)) (Ok result) new
  ran steps journal program numbers b turns result new h =
      let set = set_of_name program.set in
      let trace = trace_of b set program.code program.words steps numbers in
      let pieces = run_lines set trace ++ map journal_line h.entries in
      (pieces, run_status trace, ((h.entries, h.are, refl), own_run pieces (ending_of 0 trace)), h.put)
