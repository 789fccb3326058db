-- Runs under two schedules.
use Rattle.std.proofs.Common.{◌≡◌, ℕ, ℤ, Bool, List, [], length, inl, inr, sym, subst, ap, ◌∙◌}
use Rattle.std.specs.FinMap.{from_entries}
use Rattle.moduli_sets.specs.Name.{set_of_name}
use Rattle.number_text.specs.Input.{AreNumbers, input_words}
use Rattle.number_text.proofs.InputLemmas.{same_numbers}
use Rattle.fault_book.specs.Book.{Book}
use Rattle.fault_book.specs.FaultText.{entries_of}
use Rattle.job_endings.specs.declared.status.Status.{Status}
use Rattle.object_bytes.specs.Loading.{Program, program_in}
use Rattle.object_runs.specs.RunText.{run_lines, run_status, trace_of}
use Rattle.rnm_engine.specs.Jobs.{AreAlike, IsBeforeJournal, IsExecAnswer, IsFaultsAnswer, IsInputAnswer, IsProgramAnswer, IsRunOf, IsScheduleAnswer, answer_lines, answer_status, lines}

-- what a run on numbers prints before its journal, and its status
abbrev front_of : ℕ → Program → Book → List ℤ → List (List ℕ)
front_of steps program book numbers =
    let set = set_of_name program.set in
    run_lines set (trace_of book set program.code program.words steps numbers)

abbrev status_of : ℕ → Program → Book → List ℤ → Status
status_of steps program book numbers =
    let set = set_of_name program.set in
    run_status (trace_of book set program.code program.words steps numbers)

-- these are the lines of such a run and of its journal, and its status
record IsPrinted (steps : ℕ) (program : Program) (book : Book) (pieces : List (List ℕ)) (status : Status) (numbers : List ℤ) : Type 0 where
  pub printed : IsBeforeJournal (front_of steps program book numbers) pieces
  pub ended : status ≡ status_of steps program book numbers

module _ (steps : ℕ) (journal : Bool) (faults schedule : List ℕ) (program : Program) (pieces : List (List ℕ)) (status : Status) where
  abbrev channels : ℕ
  channels = length (set_of_name program.set).moduli

  by_turns : (book : Book) (numbers : List ℤ) → IsScheduleAnswer channels schedule (IsRunOf steps journal program numbers book) (lines pieces status) → IsPrinted steps program book pieces status numbers
  by_turns book numbers (inl (number, first, is)) = absurd (cc)
  by_turns book numbers (inr (turns, are, (entries, kept, is))) = record {
    printed = (entries, ap (answer_lines []) is);
    ended = ap answer_status is;
  }

  by_faults : (numbers : List ℤ) → IsProgramAnswer steps journal program faults schedule numbers (lines pieces status) → IsPrinted steps program (from_entries (entries_of faults)) pieces status numbers
  by_faults numbers (inl (fault, more, refusal, first, stop, is)) = absurd (cc)
  by_faults numbers (inr (none, turned)) = by_turns (from_entries (entries_of faults)) numbers turned

  by_input : (input : List ℕ) → IsInputAnswer input (IsProgramAnswer steps journal program faults schedule) (lines pieces status)
      → (numbers : List ℤ) × AreNumbers (input_words input) numbers × IsPrinted steps program (from_entries (entries_of faults)) pieces status numbers
  by_input input (inl (place, first, is)) = absurd (cc)
  by_input input (inr (numbers, are, h)) = (numbers, are, by_faults numbers h)

module _ (steps : ℕ) (object input faults : List ℕ) where
  of_run : (journal : Bool) (schedule : List ℕ) (pieces : List (List ℕ)) (status : Status) → IsExecAnswer steps journal object input faults schedule (lines pieces status)
      → (numbers : List ℤ) × AreNumbers (input_words input) numbers × IsPrinted steps (program_in object) (from_entries (entries_of faults)) pieces status numbers
  of_run journal schedule pieces status (inl (fault, refusal, first, stop, is)) = absurd (cc)
  of_run journal schedule pieces status (inr (sound, h)) = by_input steps journal faults schedule (program_in object) pieces status input h

  -- two answers of lines are those of one run
  pub alike : (journal other_journal : Bool) (schedule other_schedule : List ℕ) (pieces others : List (List ℕ)) (status other_status : Status)
      → IsExecAnswer steps journal object input faults schedule (lines pieces status) → IsExecAnswer steps other_journal object input faults other_schedule (lines others other_status)
      → AreAlike pieces others status other_status
  alike journal other_journal schedule other_schedule pieces others status other_status one other =
      let (xs, are_xs, first) = of_run journal schedule pieces status one in
      let (ys, are_ys, second) = of_run other_journal other_schedule others other_status other in
      let again = subst (IsPrinted steps (program_in object) (from_entries (entries_of faults)) others other_status) (same_numbers (input_words input) ys xs are_ys are_xs) second in
      record {
        front = front_of steps (program_in object) (from_entries (entries_of faults)) xs;
        one = first.printed;
        other = again.printed;
        same = first.ended ∙ sym again.ended;
      }
