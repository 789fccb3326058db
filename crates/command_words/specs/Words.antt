-- The job that a list of words asks for. A word is its bytes; word 0 is the command.
use Rattle.std.specs.Prelude.{ℕ, ◌≤◌, Bool, ◌&&◌, ⊤, List, [], ◌∷◌, Option, None, IfSome, option_and_then, codes, if◌then◌else◌}
use Rattle.std.specs.Option.{option_map}
use Rattle.std.specs.Str.{bytes_eq}
use Rattle.number_theory.specs.Residue.{AreResidues}
use Rattle.moduli_sets.specs.declared.set_name.SetName.{SetName}
use Rattle.moduli_sets.specs.declared.set_name.SetName.TheVariants.{Desk}
use Rattle.moduli_sets.specs.Set.{IsInRange}
use Rattle.moduli_sets.specs.Name.{set_named, set_of_name}
use Rattle.word_readers.specs.declared.options.OptionKind.TheVariants.{Flag, Value}
use Rattle.word_readers.specs.Numbers.{integer_in_range, residues_in, steps_in}
use Rattle.word_readers.specs.declared.operands.FileWord.{FileWord}
use Rattle.word_readers.specs.Operands.{IsFileWord, file_and_input, file_option, named_file, operands_of}
use Rattle.word_readers.specs.Options.{OptionTable, flag_of, has_only_options, option_of, values_of}
use Rattle.command_words.specs.declared.job.Job.{Job}
use Rattle.command_words.specs.declared.job.Job.TheVariants.{Run, Exec, Asm, List as Listing, Decode, Encode, Mean, Set}

-- `run SOURCE - --set=pocket`, the words in this order
abbrev pub run_job : List (List ℕ) → Option Job
run_job (command ∷ (source ∷ (input ∷ (set ∷ [])))) =
    if bytes_eq input (codes "-") && bytes_eq set (codes "--set=pocket") then option_map Run (named_file (1, source)) else None
run_job words = None

-- `encode SET X`, with X in range
abbrev pub encode_job : List (List ℕ) → Option Job
encode_job (command ∷ (name ∷ (number ∷ []))) =
    option_and_then (λ set. option_map (Encode set) (integer_in_range set number)) (set_named name)
encode_job words = None

-- `decode SET RESIDUE ..`, one residue for each channel
abbrev pub decode_job : List (List ℕ) → Option Job
decode_job (command ∷ (name ∷ residues)) =
    option_and_then (λ set. option_map (Decode set) (residues_in (set_of_name set).moduli residues)) (set_named name)
decode_job words = None

-- `set SET`
abbrev pub set_job : List (List ℕ) → Option Job
set_job (command ∷ (name ∷ [])) = option_map Set (set_named name)
set_job words = None

-- the options of `mean`
abbrev pub mean_options : OptionTable
mean_options = (codes "--set", Value) ∷ ((codes "--steps", Value) ∷ [])

-- the set that the option names, and else `desk`
abbrev pub set_option : List (List ℕ) → Option SetName
set_option words = option_of set_named Desk (values_of (codes "--set") words)

-- the limit of steps that the option writes, and else 1,000,000
abbrev pub steps_option : List (List ℕ) → Option ℕ
steps_option words = option_of steps_in 1000000 (values_of (codes "--steps") words)

-- `mean SOURCE INPUT`, with its options in any order
abbrev pub mean_job : List (List ℕ) → Option Job
mean_job words =
    if has_only_options mean_options words
    then option_and_then (λ files. option_and_then (λ set. option_map (Mean files.0 files.1 set)
    (steps_option words)) (set_option words)) (file_and_input (operands_of words))
    else None

-- the options of `exec`
abbrev pub exec_options : OptionTable
exec_options =
    (codes "--steps", Value) ∷ ((codes "--faults", Value) ∷ ((codes "--schedule", Value) ∷ ((codes "--journal", Flag) ∷ [])))

-- the file of faults that the option names, where it is there
abbrev pub faults_option : List (List ℕ) → Option (Option FileWord)
faults_option words = file_option (codes "--faults") words

-- the file of turns that the option names, where it is there
abbrev pub schedule_option : List (List ℕ) → Option (Option FileWord)
schedule_option words = file_option (codes "--schedule") words

-- whether the journal is asked for
abbrev pub journal_option : List (List ℕ) → Option Bool
journal_option words = flag_of (codes "--journal") words

-- `exec OBJECT INPUT`, with its options in any order
abbrev pub exec_job : List (List ℕ) → Option Job
exec_job words =
    if has_only_options exec_options words
    then option_and_then (λ files. option_and_then (λ steps. option_and_then (λ faults. option_and_then (λ schedule.
    option_map (Exec files.0 files.1 steps faults schedule)
    (journal_option words)) (schedule_option words)) (faults_option words)) (steps_option words)) (file_and_input (operands_of words))
    else None

-- the file that the one word after the command names
abbrev pub only_file : List (List ℕ) → Option FileWord
only_file (command ∷ (file ∷ [])) = named_file (1, file)
only_file words = None

-- `asm TEXT`
abbrev pub asm_job : List (List ℕ) → Option Job
asm_job words = option_map Asm (only_file words)

-- `list OBJECT`
abbrev pub list_job : List (List ℕ) → Option Job
list_job words = option_map Listing (only_file words)

-- the job that words ask for, by their command; none where they are a usage fault
abbrev pub job_of_command : List ℕ → List (List ℕ) → Option Job
job_of_command command words =
    if bytes_eq command (codes "run") then run_job words
    else if bytes_eq command (codes "exec") then exec_job words
    else if bytes_eq command (codes "asm") then asm_job words
    else if bytes_eq command (codes "list") then list_job words
    else if bytes_eq command (codes "decode") then decode_job words
    else if bytes_eq command (codes "encode") then encode_job words
    else if bytes_eq command (codes "mean") then mean_job words
    else if bytes_eq command (codes "set") then set_job words else None

abbrev pub job_of_words : List (List ℕ) → Option Job
job_of_words [] = None
job_of_words (command ∷ operands) = job_of_command command (command ∷ operands)

-- what a job holds: each file word is a part of one of the words; a vector has one residue for each channel of its
-- set, below its modulus; an integer is in the range of its set; an object's instructions are at most 1,000,000,000
abbrev pub HoldsOf : List (List ℕ) → Job → Type 0
HoldsOf words (Run source) = IsFileWord words source
HoldsOf words (Exec object input steps faults schedule journal) =
    IsFileWord words object × IfSome input (IsFileWord words) × (steps ≤ 1000000000) × IfSome faults (IsFileWord words)
    × IfSome schedule (IsFileWord words)
HoldsOf words (Asm text) = IsFileWord words text
HoldsOf words (Listing object) = IsFileWord words object
HoldsOf words (Decode set residues) = AreResidues (set_of_name set).moduli residues
HoldsOf words (Encode set x) = IsInRange (set_of_name set) x
HoldsOf words (Mean source input set steps) = IsFileWord words source × IfSome input (IsFileWord words)
HoldsOf words (Set set) = ⊤
