-- Sources that have no object.
use Rattle.std.specs.Prelude.{ℕ, nat_lt, length, Option, Some, None, if◌then◌else◌}
use Rattle.moduli_sets.specs.Set.{ModuliSet}
use Rattle.machine_table.specs.Faults.{most_instructions, most_words}
use Rattle.source_tree.specs.declared.declaration.Program.{Program}
use Rattle.selector.specs.Depth.{program_too_deep}
use Rattle.selector.specs.Programs.{program_code, program_words}

-- an expression at a line wants register 16, or there are too many instructions, or too many data words
pub data Refusal : Type 0 where
  too_deep : (line : ℕ) → Refusal
  too_much_code : Refusal
  too_much_data : Refusal

abbrev pub size_fault : (instructions words : ℕ) → Option Refusal
size_fault instructions words =
    if nat_lt most_instructions instructions then Some too_much_code
    else if nat_lt most_words words then Some too_much_data
    else None

abbrev pub depth_or : Option ℕ → Option Refusal → Option Refusal
depth_or (Some line) next = Some (too_deep line)
depth_or None next = next

-- the first refusal: depth, instructions, data words
abbrev pub select_fault : ModuliSet → Program → Option Refusal
select_fault set program =
    depth_or (program_too_deep set program) (size_fault (length (program_code set program)) (program_words set program))
