-- The one spelling of a program. Numbers stand with their highest byte first.
use Rattle.std.specs.Prelude.{ℕ, ◌<◌, ◌^◌, ℤ, List, [], ◌∷◌, ◌++◌, length, codes, All}
use Rattle.std.specs.List.{flat_map}
use Rattle.std.specs.Int.{w32, to_be_bytes}
use Rattle.moduli_sets.specs.declared.set_name.SetName.{SetName}
use Rattle.moduli_sets.specs.declared.set_name.SetName.TheVariants.{Pocket, Desk, Hall}
use Rattle.machine_table.specs.declared.instr.Instr.{Instr}
use Rattle.object_bytes.specs.Record.{fields_of, instr_bytes, integer_bytes}

-- the number of a set
abbrev pub number_of_set : SetName → ℕ
number_of_set Pocket = 1
number_of_set Desk = 2
number_of_set Hall = 3

-- 16 bytes: the word that begins each object, version 1, the set, two bytes of 0, how many instructions and data words
abbrev pub header_bytes : SetName → ℕ → ℕ → List ℕ
header_bytes set instructions words =
    codes "RNMO" ++ (1 ∷ number_of_set set ∷ 0 ∷ 0 ∷ []) ++ to_be_bytes w32 instructions ++ to_be_bytes w32 words

-- the header, a record for each instruction, and 16 bytes for each data word
unfoldable pub bytes_of : SetName → List Instr → List ℤ → List ℕ
bytes_of set code words = header_bytes set (length code) (length words) ++ flat_map instr_bytes code ++ flat_map integer_bytes words

-- the lines of instructions fit their fields, as those of every value of the type do
abbrev pub HaveLines : List Instr → Type 0
HaveLines code = All (λ instr. (fields_of instr).line < 2 ^ 32) code
