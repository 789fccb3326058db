-- Programs without a fault.
use Rattle.std.specs.Prelude.{◌≡◌, ℤ, List, None}
use Rattle.moduli_sets.specs.Set.{ModuliSet}
use Rattle.machine_table.specs.declared.instr.Instr.{Instr}
use Rattle.machine_table.specs.Faults.{IsSound, object_fault}

-- a program that has no fault is sound
abbrev pub FaultlessAreSound : Type 0
FaultlessAreSound = (set : ModuliSet) (code : List Instr) (words : List ℤ) → object_fault set code words ≡ None → IsSound set code words

-- a sound program has none
abbrev pub SoundAreFaultless : Type 0
SoundAreFaultless = (set : ModuliSet) (code : List Instr) (words : List ℤ) → IsSound set code words → object_fault set code words ≡ None
