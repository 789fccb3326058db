-- A text has one outcome, and a listing spells its program.
use Rattle.std.specs.Prelude.{◌≡◌, ◌≢◌, ℕ, ℤ, List, None}
use Rattle.moduli_sets.specs.declared.set_name.SetName.{SetName}
use Rattle.moduli_sets.specs.Name.{set_of_name}
use Rattle.machine_table.specs.declared.instr.Instr.{Instr}
use Rattle.machine_table.specs.Faults.{IsSound, object_fault}
use Rattle.assembler.specs.declared.fault.AsmFault.{AsmFault}
use Rattle.assembler.specs.declared.fault.AsmFault.TheVariants.{NoMemory}
use Rattle.assembler.specs.Assembly.{IsRefusal, Spells}
use Rattle.assembler.specs.Listing.{AreWritable, listing}

-- a text spells one program at the most
abbrev pub SpellsOne : Type 0
SpellsOne = (text : List ℕ) (set set' : SetName) (code code' : List Instr) (words words' : List ℤ) → Spells text set code words → Spells text set' code' words'
    → (set ≡ set') × (code ≡ code') × (words ≡ words')

-- there is one reason at the most to refuse it, apart from want of memory
abbrev pub RefusedForOne : Type 0
RefusedForOne = (text : List ℕ) (fault fault' : AsmFault) → fault ≢ NoMemory → fault' ≢ NoMemory → IsRefusal text fault → IsRefusal text fault' → fault ≡ fault'

-- what is refused spells no program without a fault
abbrev pub RefusedAreNone : Type 0
RefusedAreNone = (text : List ℕ) (fault : AsmFault) (set : SetName) (code : List Instr) (words : List ℤ) → fault ≢ NoMemory → IsRefusal text fault → Spells text set code words
    → object_fault (set_of_name set) code words ≢ None

-- the listing of a program spells it
abbrev pub ListingsSpell : Type 0
ListingsSpell = (set : SetName) (code : List Instr) (words : List ℤ) → IsSound (set_of_name set) code words → AreWritable code → Spells (listing set code words) set code words

-- a text spells this program and no other, and only want of memory can refuse it
abbrev pub SpellsOnly : List ℕ → SetName → List Instr → List ℤ → Type 0
SpellsOnly text set code words =
    Spells text set code words
    × ((set' : SetName) (code' : List Instr) (words' : List ℤ) → Spells text set' code' words' → (set' ≡ set) × (code' ≡ code) × (words' ≡ words))
    × ((fault : AsmFault) → IsRefusal text fault → fault ≡ NoMemory)

-- the listing of a sound program comes back: what a call that assembles it answers is that program, or want of memory
abbrev pub ListingsComeBack : Type 0
ListingsComeBack = (set : SetName) (code : List Instr) (words : List ℤ) → IsSound (set_of_name set) code words → AreWritable code → SpellsOnly (listing set code words) set code words
