-- What a run of an object does in the channels, and what is printed of it.
use Rattle.std.specs.Prelude.{◌≡◌, ℕ, ℤ, Bool, List, [], ◌∷◌, ◌++◌, map, length, Option, Some, None, codes, if◌then◌else◌}
use Rattle.std.specs.Fmt.{decimal}
use Rattle.std.specs.List.{range_with_len}
use Rattle.moduli_sets.specs.Set.{ModuliSet, radius}
use Rattle.fault_book.specs.Book.{Book}
use Rattle.fault_book.specs.declared.schedule.Turn.{Turn}
use Rattle.lane_bank.specs.Bank.{lanes_at_start}
use Rattle.channel_scheduler.specs.declared.entry.Entry.{Entry}
use Rattle.channel_scheduler.specs.Counts.{HasPerformed}
use Rattle.channel_scheduler.specs.Moments.{JournalIs}
use Rattle.machine_table.specs.declared.instr.Instr.{Instr}
use Rattle.machine_table.specs.Control.{control_at_start}
use Rattle.machine_table.specs.Integers.{IntegerRun, IntegerEnding, printed_by}
use Rattle.machine_table.specs.Integers as integers
use Rattle.number_text.specs.Lines.{line, print_lines}
use Rattle.outside.specs.Sink.{SinkState}
use Rattle.shown_run.specs.Decoded.{nearest}
use Rattle.shown_run.specs.Trace.{Trace, RunEnding, halt, trap, damage, spent, corrections_of, ending_of, operations_of, prints_of}
use Rattle.shown_run.specs.Runs.{run_shown}
use Rattle.residue_machine.specs.declared.ending.Ending.{Ending as MachineEnding}
use Rattle.residue_machine.specs.declared.ending.Ending.TheVariants as machine
use Rattle.job_endings.specs.declared.status.Status.{Status}
use Rattle.job_endings.specs.declared.ending.Ending.{Ending}
use Rattle.job_endings.specs.declared.ending.Ending.TheVariants.{End, Trap, Damage, Spent}
use Rattle.job_endings.specs.EndingLines.{corrected_line, ending_line, ending_status}
use Rattle.job_endings.specs.Endings.{EndsPut}

-- the trace of at most so many instructions of a program on an input, from lanes as they are made, with the faults of a book
abbrev pub trace_of : Book → ModuliSet → List Instr → List ℤ → ℕ → List ℤ → Trace
trace_of book set code words steps input =
    run_shown (nearest (radius set) None set) book set code steps (control_at_start input) (lanes_at_start set 0 words)

-- how a run ended, as it is told
abbrev pub told_ending : RunEnding → Ending
told_ending halt = End
told_ending (trap kind line) = Trap kind line
told_ending (damage number column) = Damage number column
told_ending spent = Spent

-- how many columns were corrected in each channel
abbrev pub counts_of : ModuliSet → Trace → List ℕ
counts_of set trace = map (corrections_of None set trace) (range_with_len 0 (length set.moduli))

-- what is printed of a run: its integers, its ending and the counts, each in a line
abbrev pub run_lines : ModuliSet → Trace → List (List ℕ)
run_lines set trace =
    print_lines (prints_of trace) ++ (ending_line (told_ending (ending_of 0 trace)) ∷ (corrected_line (counts_of set trace) ∷ []))

abbrev pub run_status : Trace → Status
run_status trace = ending_status (told_ending (ending_of 0 trace))

-- ---- the journal
-- an entry as a line: the channel, the number of the operation, the answer
abbrev pub journal_line : Entry → List ℕ
journal_line entry = line (codes "j " ++ decimal entry.channel ++ codes " " ++ decimal entry.number ++ codes " " ++ decimal entry.answer)

-- how many entries are printed, by whether the journal is asked for
abbrev pub entries_kept : Bool → ℕ
entries_kept journal = if journal then 100000 else 0

-- these are the first entries of a run's journal, as many as are printed: what the turns of a schedule, and of the rounds after
-- it, have performed when all operations of the run are
abbrev pub AreEntries : List Turn × ℕ → Book → ModuliSet → List ℤ → Trace → List Entry → Type 0
AreEntries plan book set words trace entries =
    JournalIs (HasPerformed (operations_of trace)) plan book (lanes_at_start set 0 words) (operations_of trace) entries

-- the lines of a run and of its journal are put, up to a put that failed
pub record PutsRun {K : Type 0} (puts : K → List ℕ → K → Type 0) (state : K → SinkState) (plan : List Turn × ℕ) (book : Book) (set : ModuliSet)
    (words : List ℤ) (trace : Trace) (old : K) (result : Status) (new : K) : Type 0 where
  pub entries : List Entry
  pub are : AreEntries plan book set words trace entries
  pub put : EndsPut puts state old (run_lines set trace ++ map journal_line entries) (run_status trace) result new

-- how a machine's run came out, as it is told; none where the put of a print failed
abbrev pub told_answer : MachineEnding → Option Ending
told_answer machine.Halt = Some End
told_answer (machine.Trap kind line) = Some (Trap kind line)
told_answer (machine.Damage number column) = Some (Damage number column)
told_answer machine.Spent = Some Spent
told_answer machine.SinkFailed = None

-- ---- as the integer machine runs
-- how its run ended, as it is told; none where an integer leaves the range
abbrev pub told_of_integers : IntegerEnding → Option Ending
told_of_integers integers.halt = Some End
told_of_integers (integers.trap kind line) = Some (Trap kind line)
told_of_integers integers.out_of_range = None
told_of_integers integers.spent = Some Spent

-- what is printed of a trace is what the integer machine prints, its ending, and how many columns were corrected
pub record TellsIntegers (set : ModuliSet) (trace : Trace) (run : IntegerRun) : Type 0 where
  pub ending : Ending
  pub told : told_of_integers (integers.ending_of run) ≡ Some ending
  pub lines : run_lines set trace ≡ print_lines (printed_by run) ++ (ending_line ending ∷ (corrected_line (counts_of set trace) ∷ []))
  pub status : run_status trace ≡ ending_status ending
