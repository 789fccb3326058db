-- Where control stands, and how a program ends.
use Rattle.std.specs.Prelude.{ℕ, zero, suc, ◌+◌, ℤ, pos, negsuc, Bool, true, false, ◌&&◌, int_le, List, []}
use Rattle.moduli_sets.specs.declared.kind.Kind.{Kind}
use Rattle.moduli_sets.specs.declared.kind.Kind.TheVariants.{Zero, Range, Index, InputEnd, InputRange, Turns, Stack}

-- the number of the instruction that comes next, the return places with the one held last in front, and the numbers of
-- the input that aren't yet read
pub record Control : Type 0 where
  pub counter : ℕ
  pub places : List ℕ
  pub input : List ℤ

abbrev pub control_at_start : List ℤ → Control
control_at_start input = record { counter = 0; places = []; input = input }

-- on to the next instruction
abbrev pub next : Control → Control
next control = record control { counter = control.counter + 1 }

-- on to another one
abbrev pub at_place : ℕ → Control → Control
at_place target control = record control { counter = target }

-- with the input that is left
abbrev pub with_input : List ℤ → Control → Control
with_input input control = record control { input = input }

-- on to another one, with return places
abbrev pub with_places : ℕ → List ℕ → Control → Control
with_places target places control = record control { counter = target; places = places }

-- the most return places that are held
abbrev pub most_places : ℕ
most_places = 64

-- how a program ends by itself: at a HALT, or by a trap of a kind, at a line
pub data End : Type 0 where
  halts : End
  traps : Kind → ℕ → End

-- the kinds of traps by their numbers; there is none above 6
abbrev pub kind_numbered : ℕ → Kind
kind_numbered zero = Zero
kind_numbered (suc zero) = Range
kind_numbered (suc (suc zero)) = Index
kind_numbered (suc (suc (suc zero))) = InputEnd
kind_numbered (suc (suc (suc (suc zero)))) = InputRange
kind_numbered (suc (suc (suc (suc (suc zero))))) = Turns
kind_numbered (suc (suc (suc (suc (suc (suc n)))))) = Stack

-- x is in low..high
abbrev pub lies_in : ℤ → ℤ → ℤ → Bool
lies_in low high x = int_le low x && int_le x high

-- ---- signs
abbrev pub is_negative : ℤ → Bool
is_negative (pos n) = false
is_negative (negsuc n) = true

abbrev pub is_positive : ℤ → Bool
is_positive (pos zero) = false
is_positive (pos (suc n)) = true
is_positive (negsuc n) = false

abbrev pub is_zero : ℤ → Bool
is_zero (pos zero) = true
is_zero (pos (suc n)) = false
is_zero (negsuc n) = false
