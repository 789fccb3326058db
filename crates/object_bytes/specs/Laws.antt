-- Bytes and programs are each other's spelling.
use Rattle.std.specs.Prelude.{◌≡◌, ℕ, ℤ, List, None}
use Rattle.moduli_sets.specs.declared.set_name.SetName.{SetName}
use Rattle.moduli_sets.specs.Name.{set_of_name}
use Rattle.machine_table.specs.declared.instr.Instr.{Instr}
use Rattle.machine_table.specs.Faults.{IsSound}
use Rattle.object_bytes.specs.Loading.{AreBytes, load_fault, program_in}
use Rattle.object_bytes.specs.Spelling.{HaveLines, bytes_of}

-- bytes that have no fault spell the program that is read, and it is sound
abbrev pub LoadedAreSpelled : Type 0
LoadedAreSpelled = (bytes : List ℕ) → AreBytes bytes → load_fault bytes ≡ None
    → let program = program_in bytes in
    (bytes ≡ bytes_of program.set program.code program.words) × IsSound (set_of_name program.set) program.code program.words

-- the spelling of a sound program has no fault, and is read as that program
abbrev pub SpelledAreLoaded : Type 0
SpelledAreLoaded = (set : SetName) (code : List Instr) (words : List ℤ) → IsSound (set_of_name set) code words → HaveLines code
    → (load_fault (bytes_of set code words) ≡ None) × (program_in (bytes_of set code words) ≡ record { set = set; code = code; words = words })
