-- What bytes spell, and why they are refused.
use Rattle.std.specs.Prelude.{◌≡◌, ◌⊎◌, ℕ, zero, suc, ◌+◌, ◌-◌, ◌*◌, ◌<◌, ◌==◌, ℤ, Bool, true, false, not, nat_lt, List, [], ◌∷◌, length, take, drop, slice_index, codes, Option, Some, None, if◌then◌else◌, unwrap_or}
use Rattle.std.specs.Option.{option_map}
use Rattle.std.specs.Str.{bytes_eq}
use Rattle.moduli_sets.specs.declared.set_name.SetName.{SetName}
use Rattle.moduli_sets.specs.declared.set_name.SetName.TheVariants.{Pocket, Desk, Hall}
use Rattle.moduli_sets.specs.Name.{set_of_name}
use Rattle.machine_table.specs.declared.fault.ObjectFault.{ObjectFault}
use Rattle.machine_table.specs.declared.fault.ObjectFault.TheVariants.{TooMuchCode, TooMuchData}
use Rattle.machine_table.specs.declared.instr.Instr.{Instr}
use Rattle.machine_table.specs.declared.instr.Instr.TheVariants.{Halt}
use Rattle.machine_table.specs.Faults.{most_instructions, most_words, object_fault}
use Rattle.object_bytes.specs.declared.fault.LoadFault.{LoadFault}
use Rattle.object_bytes.specs.declared.fault.LoadFault.TheVariants.{Short, BadMagic, BadVersion, BadSet, Long, BadRecord, Unsound, NoMemory}
use Rattle.object_bytes.specs.Layout.{or_place, record_fault}
use Rattle.object_bytes.specs.Record.{instr_in, integer_at, natural_at}

-- each is a byte
abbrev pub AreBytes : List ℕ → Type 0
AreBytes bytes = (i : ℕ) → slice_index bytes i < 256

-- ---- the header
-- the set of a number
abbrev pub set_numbered : ℕ → Option SetName
set_numbered zero = None
set_numbered (suc zero) = Some Pocket
set_numbered (suc (suc zero)) = Some Desk
set_numbered (suc (suc (suc zero))) = Some Hall
set_numbered (suc (suc (suc (suc n)))) = None

-- the set, and how many instructions and data words there are
abbrev pub set_in : List ℕ → SetName
set_in bytes = unwrap_or (set_numbered (slice_index bytes 5)) Pocket

abbrev pub instructions_in : List ℕ → ℕ
instructions_in bytes = natural_at 8 bytes

abbrev pub words_in : List ℕ → ℕ
words_in bytes = natural_at 12 bytes

-- the first of two faults
abbrev pub or_load_fault : Option LoadFault → Option LoadFault → Option LoadFault
or_load_fault (Some fault) next = Some fault
or_load_fault None next = next

abbrev pub is_no_set : Option SetName → Bool
is_no_set None = true
is_no_set (Some set) = false

-- the first fault up to byte 7
unfoldable pub prefix_fault : List ℕ → Option LoadFault
prefix_fault bytes =
    if nat_lt (length bytes) 16 then Some (Short (length bytes))
    else if not (bytes_eq (take 4 bytes) (codes "RNMO")) then Some BadMagic
    else if not (slice_index bytes 4 == 1) then Some (BadVersion (slice_index bytes 4))
    else if is_no_set (set_numbered (slice_index bytes 5)) then Some (BadSet (slice_index bytes 5))
    else if not (slice_index bytes 6 == 0) then Some (BadRecord 6)
    else if not (slice_index bytes 7 == 0) then Some (BadRecord 7)
    else None

-- the length of an object with so many instructions and data words
abbrev pub length_by : ℕ → ℕ → ℕ
length_by instructions words = 16 + 40 * instructions + 16 * words

-- the first fault of the two counts, and then of the length
unfoldable pub counts_fault : ℕ → ℕ → ℕ → Option LoadFault
counts_fault instructions words length =
    if nat_lt most_instructions instructions then Some (Unsound TooMuchCode)
    else if nat_lt most_words words then Some (Unsound TooMuchData)
    else if nat_lt length (length_by instructions words) then Some (Short length)
    else if nat_lt (length_by instructions words) length then Some (Long (length - length_by instructions words))
    else None

unfoldable pub header_fault : List ℕ → Option LoadFault
header_fault bytes = or_load_fault (prefix_fault bytes) (counts_fault (instructions_in bytes) (words_in bytes) (length bytes))

-- ---- instructions and data words
-- n instructions, and n data words, one after another
unfoldable pub code_from : ℕ → List ℕ → List Instr
code_from zero bytes = []
code_from (suc n) bytes = unwrap_or (instr_in (take 40 bytes)) Halt ∷ code_from n (drop 40 bytes)

unfoldable pub words_from : ℕ → List ℕ → List ℤ
words_from zero bytes = []
words_from (suc n) bytes = integer_at 0 bytes ∷ words_from n (drop 16 bytes)

-- the first place of n records, of which the first begins at this place, that breaks the layout of its record
unfoldable pub records_fault : ℕ → ℕ → List ℕ → Option ℕ
records_fault zero place bytes = None
records_fault (suc n) place bytes = or_place (record_fault place (take 40 bytes)) (records_fault n (place + 40) (drop 40 bytes))

-- ---- programs
pub record Program : Type 0 where
  pub set : SetName
  pub code : List Instr
  pub words : List ℤ

-- the program that bytes spell, where they spell one
unfoldable pub program_in : List ℕ → Program
program_in bytes =
    record {
      set = set_in bytes;
      code = code_from (instructions_in bytes) (drop 16 bytes);
      words = words_from (words_in bytes) (drop (16 + 40 * instructions_in bytes) bytes);
    }

abbrev pub program_fault : Program → Option ObjectFault
program_fault program = object_fault (set_of_name program.set) program.code program.words

-- the first fault of bytes: of the header, of a record, of the program
unfoldable pub load_fault : List ℕ → Option LoadFault
load_fault bytes =
    or_load_fault (header_fault bytes)
    (or_load_fault (option_map BadRecord (records_fault (instructions_in bytes) 16 (drop 16 bytes)))
    (option_map Unsound (program_fault (program_in bytes))))

-- what a call refuses is the fault, unless memory ran out
abbrev pub IsRefusal : Option LoadFault → LoadFault → Type 0
IsRefusal fault refused = (refused ≡ NoMemory) ⊎ (fault ≡ Some refused)
