-- The table of refusals: the line and the status of each.
use Rattle.std.specs.Prelude.{ℕ, Bool, true, false, List, ◌++◌, codes}
use Rattle.std.specs.Fmt.{decimal}
use Rattle.number_text.specs.Lines.{line}
use Rattle.machine_table.specs.declared.fault.ObjectFault.{ObjectFault}
use Rattle.machine_table.specs.declared.fault.ObjectFault.TheVariants.{TooMuchCode, TooMuchData, BadRegister, BadTarget, BadAddress, BadConstant, BadDatum}
use Rattle.source_reader.specs.declared.fault.SourceFault.{SourceFault}
use Rattle.source_reader.specs.declared.fault.SourceKind.{SourceKind}
use Rattle.source_reader.specs.declared.fault.SourceKind.TheVariants.{Byte, LongNumber, Syntax, TooDeep, UnknownName, NameTwice, WrongKind, LoopAssigned, Arguments, BadRange, EmptyArray, TooMany, TooWide, Unbuilt}
use Rattle.word_readers.specs.Operands.{IsFileWord, file_name}
use Rattle.job_endings.specs.declared.status.Status.{Status}
use Rattle.job_endings.specs.declared.status.Status.TheVariants as status
use Rattle.job_endings.specs.declared.assembly_kind.AssemblyKind.{AssemblyKind}
use Rattle.job_endings.specs.declared.assembly_kind.AssemblyKind.TheVariants.{BadLine, TwiceNamed, UnknownName as UnnamedTarget, Unsound as UnsoundLine}
use Rattle.job_endings.specs.declared.object_kind.ObjectKind.{ObjectKind}
use Rattle.job_endings.specs.declared.object_kind.ObjectKind.TheVariants.{Short, Magic, Version, Set, Long, Record, Unsound}
use Rattle.job_endings.specs.declared.refusal.Refusal.{Refusal}
use Rattle.job_endings.specs.declared.refusal.Refusal.TheVariants.{Usage, Unread, TooLong, Source, Object, Assembly, Input, Faults, Schedule}
use Rattle.job_endings.specs.declared.refusal.Stop.{Stop}
use Rattle.job_endings.specs.declared.refusal.Stop.TheVariants.{Refused, NoMemory}

-- what is wrong with a source, as it is printed
abbrev pub kind_text : SourceKind → List ℕ
kind_text Byte = codes "byte"
kind_text LongNumber = codes "long-number"
kind_text Syntax = codes "syntax"
kind_text TooDeep = codes "too-deep"
kind_text UnknownName = codes "unknown-name"
kind_text NameTwice = codes "name-twice"
kind_text WrongKind = codes "wrong-kind"
kind_text LoopAssigned = codes "loop-assigned"
kind_text Arguments = codes "arguments"
kind_text BadRange = codes "bad-range"
kind_text EmptyArray = codes "empty-array"
kind_text TooMany = codes "too-many"
kind_text TooWide = codes "too-wide"
kind_text Unbuilt = codes "unbuilt"

abbrev pub source_line : SourceFault → List ℕ
source_line fault = codes "refused source " ++ kind_text fault.kind ++ codes " " ++ decimal fault.line

-- the rule that a program breaks, as it is printed
abbrev pub rule_text : ObjectFault → List ℕ
rule_text TooMuchCode = codes "code "
rule_text TooMuchData = codes "data "
rule_text (BadRegister n) = codes "register "
rule_text (BadTarget n) = codes "target "
rule_text (BadAddress n) = codes "address "
rule_text (BadConstant n) = codes "constant "
rule_text (BadDatum n) = codes "datum "

-- the number of the instruction or data word that breaks it
abbrev pub number_in : ObjectFault → ℕ
number_in TooMuchCode = 0
number_in TooMuchData = 0
number_in (BadRegister n) = n
number_in (BadTarget n) = n
number_in (BadAddress n) = n
number_in (BadConstant n) = n
number_in (BadDatum n) = n

-- what is wrong with an object, as it is printed
abbrev pub object_text : ObjectKind → List ℕ
object_text (Short length) = codes "short " ++ decimal length
object_text Magic = codes "magic"
object_text (Version version) = codes "version " ++ decimal version
object_text (Set set) = codes "set " ++ decimal set
object_text (Long surplus) = codes "long " ++ decimal surplus
object_text (Record place) = codes "record " ++ decimal place
object_text (Unsound fault) = codes "unsound " ++ rule_text fault ++ decimal (number_in fault)

abbrev pub object_line : ObjectKind → List ℕ
object_line kind = codes "refused object " ++ object_text kind

-- what is wrong with an assembly text, as it is printed; a rule of programs that is broken is told with its line
abbrev pub assembly_text : AssemblyKind → List ℕ
assembly_text (BadLine n) = codes "line " ++ decimal n
assembly_text (TwiceNamed n) = codes "twice-named " ++ decimal n
assembly_text (UnnamedTarget n) = codes "unknown-name " ++ decimal n
assembly_text (UnsoundLine fault n) = codes "unsound " ++ rule_text fault ++ decimal n

abbrev pub assembly_line : AssemblyKind → List ℕ
assembly_line kind = codes "refused assembly " ++ assembly_text kind

-- the line of a refusal; a file is named as the words name it
abbrev pub refusal_line : List (List ℕ) → Refusal → List ℕ
refusal_line words Usage = line (codes "usage")
refusal_line words (Unread file) = line (codes "unread " ++ file_name words file)
refusal_line words (TooLong file) = line (codes "too long " ++ file_name words file)
refusal_line words (Source fault) = line (source_line fault)
refusal_line words (Object kind) = line (object_line kind)
refusal_line words (Assembly kind) = line (assembly_line kind)
refusal_line words (Input place) = line (codes "refused input " ++ decimal place)
refusal_line words (Faults n) = line (codes "refused faults " ++ decimal n)
refusal_line words (Schedule n) = line (codes "refused schedule " ++ decimal n)

abbrev pub refusal_status : Refusal → Status
refusal_status Usage = status.Usage
refusal_status (Unread file) = status.Unread
refusal_status (TooLong file) = status.TooLong
refusal_status (Source fault) = status.SourceRefused
refusal_status (Object kind) = status.ObjectRefused
refusal_status (Assembly kind) = status.ObjectRefused
refusal_status (Input place) = status.InputRefused
refusal_status (Faults n) = status.PlanRefused
refusal_status (Schedule n) = status.PlanRefused

-- whether the line of a refusal has the name of a file
abbrev pub names_file : Refusal → Bool
names_file Usage = false
names_file (Unread file) = true
names_file (TooLong file) = true
names_file (Source fault) = false
names_file (Object kind) = false
names_file (Assembly kind) = false
names_file (Input place) = false
names_file (Faults n) = false
names_file (Schedule n) = false

-- the file that a refusal names is named by the words
abbrev pub IsOfWords : List (List ℕ) → Refusal → Type 0
IsOfWords words Usage = Unit {0}
IsOfWords words (Unread file) = IsFileWord words file
IsOfWords words (TooLong file) = IsFileWord words file
IsOfWords words (Source fault) = Unit {0}
IsOfWords words (Object kind) = Unit {0}
IsOfWords words (Assembly kind) = Unit {0}
IsOfWords words (Input place) = Unit {0}
IsOfWords words (Faults n) = Unit {0}
IsOfWords words (Schedule n) = Unit {0}

abbrev pub IsStopOfWords : List (List ℕ) → Stop → Type 0
IsStopOfWords words (Refused refusal) = IsOfWords words refusal
IsStopOfWords words NoMemory = Unit {0}
