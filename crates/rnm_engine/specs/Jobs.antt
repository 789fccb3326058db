-- What a job does once its files are there: a row a command in each table.
use Rattle.std.specs.Prelude.{◌≡◌, ◌≢◌, ℕ, ℤ, ◌⊎◌, Bool, true, false, List, [], ◌∷◌, ◌++◌, map, length, Option, Some, None, Result, Ok, Err, slice_index_or, codes, ⊤}
use Rattle.std.specs.FinMap.{from_entries}
use Rattle.number_text.specs.Lines.{line, print_lines}
use Rattle.outside.specs.Sink.{SinkState}
use Rattle.thin_source.specs.ThinTree.{Program}
use Rattle.thin_source.specs.ThinMeaning.{IsThin, prints_of}
use Rattle.moduli_sets.specs.declared.set_name.SetName.{SetName}
use Rattle.number_text.specs.Input.{AreNumbers, IsFirstOther, input_words}
use Rattle.source_tree.specs.Meaning.{meaning}
use Rattle.source_tree.specs.Run.{Limited, Ending as RunEnding, returned, trapped, spent, limited}
use Rattle.source_tree.specs.declared.declaration.Program.{Program as SourceProgram}
use Rattle.source_reader.specs.declared.fault.SourceFault.{SourceFault}
use Rattle.source_reader.specs.declared.fault.SourceKind.TheVariants.{Unbuilt}
use Rattle.source_reader.specs.Reading.{IsFirstFault, IsProgramOf}
use Rattle.command_words.specs.declared.job.Job.{Job}
use Rattle.command_words.specs.declared.job.Job.TheVariants.{Run, Decode, Encode, Exec, Asm, List as Listing, Mean, Set}
use Rattle.word_readers.specs.declared.operands.FileWord.{FileWord}
use Rattle.moduli_sets.specs.Name.{set_of_name}
use Rattle.moduli_sets.specs.Set.{radius}
use Rattle.redundant_decoder.specs.declared.decoder.Verdict.{Verdict}
use Rattle.redundant_decoder.specs.Verdict.{IsVerdict}
use Rattle.job_endings.specs.declared.status.Status.{Status}
use Rattle.job_endings.specs.declared.status.Status.TheVariants as status
use Rattle.job_endings.specs.declared.refusal.Refusal.{Refusal}
use Rattle.job_endings.specs.declared.refusal.Refusal.TheVariants.{Source, Object, Assembly, Input, Faults, Schedule}
use Rattle.job_endings.specs.declared.assembly_kind.AssemblyKind.TheVariants as assembly
use Rattle.job_endings.specs.declared.object_kind.ObjectKind.TheVariants as kind
use Rattle.job_endings.specs.declared.refusal.Stop.{Stop}
use Rattle.job_endings.specs.declared.refusal.Stop.TheVariants.{Refused, NoMemory}
use Rattle.job_endings.specs.declared.ending.Ending.{Ending}
use Rattle.job_endings.specs.declared.ending.Ending.TheVariants.{End, Trap, Spent}
use Rattle.job_endings.specs.EndingLines.{ending_line, ending_status}
use Rattle.job_endings.specs.Endings.{EndsPut}
use Rattle.job_endings.specs.Refusals.{names_file, refusal_line, refusal_status}
use Rattle.object_bytes.specs.declared.fault.LoadFault.{LoadFault}
use Rattle.object_bytes.specs.declared.fault.LoadFault.TheVariants as load
use Rattle.object_bytes.specs.Loading.{Program as ObjectProgram, load_fault, program_in}
use Rattle.object_bytes.specs.Spelling.{bytes_of}
use Rattle.fault_book.specs.Book.{Book}
use Rattle.fault_book.specs.FaultText.{book_faults, entries_of}
use Rattle.fault_book.specs.declared.reading.BookFault.{BookFault}
use Rattle.fault_book.specs.declared.reading.BookFault.TheVariants as book
use Rattle.fault_book.specs.declared.schedule.ScheduleFault.{ScheduleFault}
use Rattle.fault_book.specs.declared.schedule.ScheduleFault.TheVariants as schedule
use Rattle.fault_book.specs.declared.schedule.Turn.{Turn}
use Rattle.fault_book.specs.ScheduleText.{AreTurns, IsFirstOther as IsFirstNoTurn}
use Rattle.channel_scheduler.specs.declared.entry.Entry.{Entry}
use Rattle.machine_table.specs.Faults.{object_fault}
use Rattle.assembler.specs.declared.fault.AsmFault.{AsmFault}
use Rattle.assembler.specs.declared.fault.AsmFault.TheVariants as asm
use Rattle.assembler.specs.Assembly.{IsRefusal, Spells}
use Rattle.assembler.specs.Listing.{listing}
use Rattle.object_runs.specs.RunText.{AreEntries, entries_kept, journal_line, run_lines, run_status, trace_of}
use Rattle.set_commands.specs.Decode.{verdict_lines, verdict_status}
use Rattle.set_commands.specs.Sets.{encode_lines, set_lines}

-- ---- answers
-- lines and a status, or a refusal
pub data Answer : Type 0 where
  lines : List (List ℕ) → Status → Answer
  refused : Refusal → Answer

-- what is put, each line in one put
abbrev pub answer_lines : List (List ℕ) → Answer → List (List ℕ)
answer_lines words (lines puts status) = puts
answer_lines words (refused refusal) = refusal_line words refusal ∷ []

abbrev pub answer_status : Answer → Status
answer_status (lines puts status) = status
answer_status (refused refusal) = refusal_status refusal

-- The answers that a job itself gives: with a status of one that was done, or a refusal of what a text says.
abbrev pub is_own : Answer → Bool
is_own (lines puts status.Ok) = true
is_own (lines puts status.Trap) = true
is_own (lines puts status.Damage) = true
is_own (lines puts status.Spent) = true
is_own (lines puts status) = false
is_own (refused (Source fault)) = true
is_own (refused (Object kind)) = true
is_own (refused (Assembly kind)) = true
is_own (refused (Input place)) = true
is_own (refused (Faults n)) = true
is_own (refused (Schedule n)) = true
is_own (refused refusal) = false

abbrev pub IsOwn : (Answer → Type 0) → Answer → Type 0
IsOwn Is answer = Is answer × (is_own answer ≡ true)

-- ---- the table of files
-- the files of a job, in the order in which they are fetched; none where the words name none
abbrev pub files_of_job : Job → List (Option FileWord)
files_of_job (Run source) = Some source ∷ []
files_of_job (Decode set residues) = []
files_of_job (Encode set x) = []
files_of_job (Exec object input steps faults schedule journal) = Some object ∷ (input ∷ (faults ∷ (schedule ∷ [])))
files_of_job (Asm text) = Some text ∷ []
files_of_job (Listing object) = Some object ∷ []
files_of_job (Mean source input set steps) = Some source ∷ (input ∷ [])
files_of_job (Set set) = []

-- ---- the table of memory
-- the jobs that take no memory; words that are no job take none
abbrev pub takes_no_memory : Option Job → Bool
takes_no_memory None = true
takes_no_memory (Some (Run source)) = false
takes_no_memory (Some (Decode set residues)) = true
takes_no_memory (Some (Encode set x)) = true
takes_no_memory (Some (Exec object input steps faults schedule journal)) = false
takes_no_memory (Some (Asm text)) = false
takes_no_memory (Some (Listing object)) = false
takes_no_memory (Some (Mean source input set steps)) = false
takes_no_memory (Some (Set set)) = true

-- ---- the table of what is done
-- text number n, and the empty text where there is none
abbrev pub text_at : List (List ℕ) → ℕ → List ℕ
text_at texts n = slice_index_or texts n []

-- the fault of a source whose meaning is not computed yet
abbrev pub unbuilt : SourceFault
unbuilt = record { kind = Unbuilt; line = 0 }

-- the ending, and the corrections of each channel
abbrev pub last_lines : List (List ℕ)
last_lines = line (codes "end") ∷ (line (codes "corrected 0 0 0 0 0") ∷ [])

-- what a run of a thin source puts
abbrev pub thin_lines : List ℤ → List (List ℕ)
thin_lines prints = print_lines prints ++ last_lines

-- a thin source runs; any other is refused
abbrev pub IsRunAnswer : List ℕ → Answer → Type 0
IsRunAnswer source answer =
    ((program : Program) × IsThin source program × (answer ≡ lines (thin_lines (prints_of program)) status.Ok))
    ⊎ (((program : Program) → IsThin source program → ⊥) × (answer ≡ refused (Source unbuilt)))

-- how a run of a source ends, as it is printed
abbrev pub ending_of : RunEnding ⊤ → Ending
ending_of (returned value after left) = End
ending_of (trapped kind line) = Trap kind line
ending_of spent = Spent

-- what a source puts that means so much within a limit
abbrev pub mean_lines : Limited ⊤ → List (List ℕ)
mean_lines limited = print_lines limited.prints ++ ending_line (ending_of limited.ending) ∷ []

-- an input is refused at its first word that is no whole number, and otherwise answered by its numbers
abbrev pub IsInputAnswer : List ℕ → (List ℤ → Answer → Type 0) → Answer → Type 0
IsInputAnswer input Is answer =
    ((place : ℕ) × IsFirstOther (input_words input) place × (answer ≡ refused (Input place)))
    ⊎ ((numbers : List ℤ) × AreNumbers (input_words input) numbers × Is numbers answer)

-- what a program means on numbers, within a limit
abbrev pub IsMeaningAnswer : ℕ → SourceProgram → List ℤ → Answer → Type 0
IsMeaningAnswer steps program numbers answer =
    let meant = limited steps (meaning program numbers) in
    answer ≡ lines (mean_lines meant) (ending_status (ending_of meant.ending))

-- a source is refused by its first fault on the set, and otherwise means something on the input
abbrev pub IsMeanAnswer : SetName → ℕ → List ℕ → List ℕ → Answer → Type 0
IsMeanAnswer set steps source input answer =
    ((fault : SourceFault) × IsFirstFault set source fault × (answer ≡ refused (Source fault)))
    ⊎ ((program : SourceProgram) × IsProgramOf set source program × IsInputAnswer input (IsMeaningAnswer steps program) answer)

-- why a job stops whose object has a fault, or found no memory
abbrev pub stop_of_load : LoadFault → Stop
stop_of_load (load.Short length) = Refused (Object (kind.Short length))
stop_of_load load.BadMagic = Refused (Object kind.Magic)
stop_of_load (load.BadVersion version) = Refused (Object (kind.Version version))
stop_of_load (load.BadSet set) = Refused (Object (kind.Set set))
stop_of_load (load.Long surplus) = Refused (Object (kind.Long surplus))
stop_of_load (load.BadRecord place) = Refused (Object (kind.Record place))
stop_of_load (load.Unsound fault) = Refused (Object (kind.Unsound fault))
stop_of_load load.NoMemory = NoMemory

-- what a run of an object's program on numbers prints, in so many instructions at most, with the faults of a book, and then of
-- its journal, where that is asked for, with the turns of a schedule
abbrev pub IsRunOf : ℕ → Bool → ObjectProgram → List ℤ → Book → List Turn → Answer → Type 0
IsRunOf steps journal program numbers book turns answer =
    let set = set_of_name program.set in
    let trace = trace_of book set program.code program.words steps numbers in
    (entries : List Entry) × AreEntries (turns, entries_kept journal) book set program.words trace entries
    × (answer ≡ lines (run_lines set trace ++ map journal_line entries) (run_status trace))

-- why a job stops whose turns are refused, or found no memory
abbrev pub stop_of_schedule : ScheduleFault → Stop
stop_of_schedule (schedule.BadTurn n) = Refused (Schedule n)
stop_of_schedule schedule.NoMemory = NoMemory

-- turns are refused by the first word of their text that is none, and otherwise answered by what they are
abbrev pub IsScheduleAnswer : ℕ → List ℕ → (List Turn → Answer → Type 0) → Answer → Type 0
IsScheduleAnswer channels schedule Is answer =
    ((number : ℕ) × IsFirstNoTurn channels schedule number × (answer ≡ refused (Schedule number)))
    ⊎ ((turns : List Turn) × AreTurns channels schedule turns × Is turns answer)

-- why a job stops whose faults are refused, or found no memory
abbrev pub stop_of_book : BookFault → Stop
stop_of_book (book.BadLine n) = Refused (Faults n)
stop_of_book (book.UnknownChannel n) = Refused (Faults n)
stop_of_book (book.Twice n) = Refused (Faults n)
stop_of_book book.NoMemory = NoMemory

-- faults are refused by the first fault of their text, and otherwise answered by their book
abbrev pub IsFaultsAnswer : ℕ → List ℕ → (Book → Answer → Type 0) → Answer → Type 0
IsFaultsAnswer channels faults Is answer =
    let refusals = book_faults channels faults in
    ((fault : BookFault) × (more : List BookFault) × (refusal : Refusal) × (refusals ≡ fault ∷ more)
    × (stop_of_book fault ≡ Refused refusal) × (answer ≡ refused refusal))
    ⊎ ((refusals ≡ []) × Is (from_entries (entries_of faults)) answer)

-- a program runs on numbers, with the faults and the turns of texts
abbrev pub IsProgramAnswer : ℕ → Bool → ObjectProgram → List ℕ → List ℕ → List ℤ → Answer → Type 0
IsProgramAnswer steps journal program faults schedule numbers answer =
    let channels = length (set_of_name program.set).moduli in
    IsFaultsAnswer channels faults
    (λ book answer. IsScheduleAnswer channels schedule (IsRunOf steps journal program numbers book) answer) answer

-- an object is refused by its first fault, and otherwise answered by its program
abbrev pub IsObjectAnswer : List ℕ → (ObjectProgram → Answer → Type 0) → Answer → Type 0
IsObjectAnswer object Is answer =
    ((fault : LoadFault) × (refusal : Refusal) × (load_fault object ≡ Some fault) × (stop_of_load fault ≡ Refused refusal) × (answer ≡ refused refusal))
    ⊎ ((load_fault object ≡ None) × Is (program_in object) answer)

-- the program of an object runs on the input
abbrev pub IsExecAnswer : ℕ → Bool → List ℕ → List ℕ → List ℕ → List ℕ → Answer → Type 0
IsExecAnswer steps journal object input faults schedule answer =
    IsObjectAnswer object (λ program. IsInputAnswer input (IsProgramAnswer steps journal program faults schedule)) answer

-- lines, and then those of a journal
abbrev pub IsBeforeJournal : List (List ℕ) → List (List ℕ) → Type 0
IsBeforeJournal front pieces = (entries : List Entry) × (pieces ≡ front ++ map journal_line entries)

-- two runs print the same but for their journals
pub record AreAlike (pieces others : List (List ℕ)) (status other_status : Status) : Type 0 where
  pub front : List (List ℕ)
  pub one : IsBeforeJournal front pieces
  pub other : IsBeforeJournal front others
  pub same : status ≡ other_status

-- the listing of a program
abbrev pub listing_of : ObjectProgram → List ℕ
listing_of program = listing program.set program.code program.words

-- the program of an object is listed, in one piece
abbrev pub IsListAnswer : List ℕ → Answer → Type 0
IsListAnswer object answer = IsObjectAnswer object (λ program answer. answer ≡ lines (listing_of program ∷ []) status.Ok) answer

-- why a job stops whose assembly text is refused, or found no memory
abbrev pub stop_of_assembly : AsmFault → Stop
stop_of_assembly (asm.BadLine n) = Refused (Assembly (assembly.BadLine n))
stop_of_assembly (asm.TwiceNamed n) = Refused (Assembly (assembly.TwiceNamed n))
stop_of_assembly (asm.UnknownName n) = Refused (Assembly (assembly.UnknownName n))
stop_of_assembly (asm.Unsound fault n) = Refused (Assembly (assembly.Unsound fault n))
stop_of_assembly asm.NoMemory = NoMemory

-- the bytes of a program
abbrev pub bytes_of_program : ObjectProgram → List ℕ
bytes_of_program program = bytes_of program.set program.code program.words

-- A text spells a program that breaks no rule, and its bytes are put, in one piece; or it is refused.
abbrev pub IsAsmAnswer : List ℕ → Answer → Type 0
IsAsmAnswer text answer =
    ((fault : AsmFault) × (refusal : Refusal) × IsRefusal text fault × (stop_of_assembly fault ≡ Refused refusal) × (answer ≡ refused refusal))
    ⊎ ((program : ObjectProgram) × Spells text program.set program.code program.words
    × (object_fault (set_of_name program.set) program.code program.words ≡ None)
    × (answer ≡ lines (bytes_of_program program ∷ []) status.Ok))

-- the answer of a job to its texts, in the order of its files
abbrev pub IsDone : Job → List (List ℕ) → Answer → Type 0
IsDone (Run source) texts answer = IsRunAnswer (text_at texts 0) answer
IsDone (Decode set residues) texts answer =
    (verdict : Verdict) × IsVerdict (radius (set_of_name set)) None (set_of_name set) residues verdict
    × (answer ≡ lines (verdict_lines verdict) (verdict_status verdict))
IsDone (Encode set x) texts answer = answer ≡ lines (encode_lines (set_of_name set) x) status.Ok
IsDone (Exec object input steps faults schedule journal) texts answer =
    IsExecAnswer steps journal (text_at texts 0) (text_at texts 1) (text_at texts 2) (text_at texts 3) answer
IsDone (Asm text) texts answer = IsAsmAnswer (text_at texts 0) answer
IsDone (Listing object) texts answer = IsListAnswer (text_at texts 0) answer
IsDone (Mean source input set steps) texts answer = IsMeanAnswer set steps (text_at texts 0) (text_at texts 1) answer
IsDone (Set set) texts answer = answer ≡ lines (set_lines (set_of_name set)) status.Ok

-- ---- what a command leaves
-- It put the lines of an answer, up to a put that failed, and gives the status; or it stops and has put nothing.
abbrev pub Does : {K : Type 0} → (K → List ℕ → K → Type 0) → (K → SinkState) → K → (Answer → Type 0) → Result Status Stop → K → Type 0
Does puts state old Is (Ok result) new =
    (pieces : List (List ℕ)) × (own : Status) × Is (lines pieces own) × EndsPut puts state old pieces own result new
Does puts state old Is (Err (Refused refusal)) new = Is (refused refusal) × (new ≡ old)
Does puts state old Is (Err NoMemory) new = new ≡ old

-- it did not run out of memory, and putting what it was refused for takes none
abbrev pub TakesNone : Result Status Stop → Type 0
TakesNone (Ok result) = result ≢ status.NoMemory
TakesNone (Err (Refused refusal)) = names_file refusal ≡ false
TakesNone (Err NoMemory) = ⊥
