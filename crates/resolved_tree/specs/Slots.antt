-- Slots: what names stand for, as far as that is integers.
use Rattle.std.specs.Prelude.{ℤ, pos, negsuc, List, [], map, Option, Some, None, replicate, unsigned_abs, ◌^◌, ◌-◌, ◌&&◌, Bool, int_le}
use Rattle.source_tree.specs.Scope.{Declared, variable, array, procedure}
use Rattle.source_tree.specs.Meaning.{start_of}
use Rattle.resolved_tree.specs.declared.slot.Slot.{Slot}
use Rattle.resolved_tree.specs.declared.slot.Slot.TheVariants.{Variable, Array, Nothing}

-- what is declared, as a slot
abbrev pub slot_of : Option Declared → Slot
slot_of (Some (variable k range)) = Variable k range
slot_of (Some (array k len range)) = Array k len range
slot_of (Some (procedure k params)) = Nothing
slot_of None = Nothing

-- all that is declared
abbrev pub slots_of : List Declared → List Slot
slots_of things = map (λ thing. slot_of (Some thing)) things

-- and back, but for procedures
abbrev pub declared_of : Slot → Option Declared
declared_of (Variable k range) = Some (variable k range)
declared_of (Array k len range) = Some (array k len range)
declared_of Nothing = None

-- the integer at which a slot starts, and the elements
abbrev pub start_integer : Slot → ℤ
start_integer (Variable k range) = start_of range
start_integer (Array k len range) = pos 0
start_integer Nothing = pos 0

abbrev pub start_elements : Slot → List ℤ
start_elements (Variable k range) = []
start_elements (Array k len range) = replicate (unsigned_abs len) (start_of range)
start_elements Nothing = []

-- an integer of 128 bits with a sign
abbrev pub is_word : ℤ → Bool
is_word x = int_le (negsuc (2 ^ 127 - 1)) x && int_le x (pos (2 ^ 127 - 1))
