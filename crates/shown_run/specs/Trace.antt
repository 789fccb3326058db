-- What a run did, in order, and what is read off it.
use Rattle.std.specs.Prelude.{◌≡◌, ℕ, ◌+◌, ◌==◌, ℤ, Bool, false, ◌||◌, List, [], ◌∷◌, Option, if◌then◌else◌}
use Rattle.moduli_sets.specs.declared.kind.Kind.{Kind}
use Rattle.moduli_sets.specs.Set.{ModuliSet}
use Rattle.moduli_sets.specs.Vector.{vector_of}
use Rattle.channel_alu.specs.declared.operation.Place.{Place}
use Rattle.channel_alu.specs.declared.operation.MicroOp.{MicroOp}
use Rattle.channel_alu.specs.declared.operation.MicroOp.TheVariants.{Show}
use Rattle.redundant_decoder.specs.Nearest.{different_places}
use Rattle.machine_table.specs.Control.{Control, End, halts, traps}
use Rattle.machine_table.specs.Integers.{IntegerRun, halt as halt_of_integers, trap as trap_of_integers, spent as spent_of_integers, ending_of as integer_ending}

-- An operation was issued; a place was shown, with its column and the integer that control went on with; an integer was
-- printed. In the end control stands at an instruction, or the program ended, or no integer in range explains a column.
pub data Trace : Type 0 where
  did : MicroOp → Trace → Trace
  showed : Place → List ℕ → ℤ → Trace → Trace
  printed : ℤ → Trace → Trace
  went_on : Control → Trace
  ended : End → Trace
  damaged : Place → List ℕ → Trace

-- the prints
abbrev pub prints_of : Trace → List ℤ
prints_of (did op more) = prints_of more
prints_of (showed place column x more) = prints_of more
prints_of (printed x more) = x ∷ prints_of more
prints_of (went_on control) = []
prints_of (ended end) = []
prints_of (damaged place column) = []

-- the operations
abbrev pub operations_of : Trace → List MicroOp
operations_of (did op more) = op ∷ operations_of more
operations_of (showed place column x more) = Show place ∷ operations_of more
operations_of (printed x more) = operations_of more
operations_of (went_on control) = []
operations_of (ended end) = []
operations_of (damaged place column) = Show place ∷ []

-- how a run ended: by itself, at a column that no integer explains, which was the operation of this number, or after the
-- instructions that it was given
pub data RunEnding : Type 0 where
  halt : RunEnding
  trap : Kind → ℕ → RunEnding
  damage : ℕ → List ℕ → RunEnding
  spent : RunEnding

abbrev pub ending_of_end : End → RunEnding
ending_of_end halts = halt
ending_of_end (traps kind line) = trap kind line

-- where its first operation has number t
abbrev pub ending_of : ℕ → Trace → RunEnding
ending_of t (did op more) = ending_of (t + 1) more
ending_of t (showed place column x more) = ending_of (t + 1) more
ending_of t (printed x more) = ending_of t more
ending_of t (went_on control) = spent
ending_of t (ended end) = ending_of_end end
ending_of t (damaged place column) = damage t column

-- ---- corrections
abbrev pub is_among : ℕ → List ℕ → Bool
is_among i [] = false
is_among i (k ∷ places) = i == k || is_among i places

-- the residue of channel i in the column isn't that of x; an erased channel isn't corrected
abbrev pub is_corrected : Option ℕ → ModuliSet → ℕ → List ℕ → ℤ → Bool
is_corrected erased set i column x = is_among i (different_places erased (vector_of set.moduli x) column)

-- how many columns were corrected in channel i; one that no integer explains isn't counted
abbrev pub corrections_of : Option ℕ → ModuliSet → Trace → ℕ → ℕ
corrections_of erased set (did op more) i = corrections_of erased set more i
corrections_of erased set (showed place column x more) i =
    (if is_corrected erased set i column x then 1 else 0) + corrections_of erased set more i
corrections_of erased set (printed x more) i = corrections_of erased set more i
corrections_of erased set (went_on control) i = 0
corrections_of erased set (ended end) i = 0
corrections_of erased set (damaged place column) i = 0

-- what a function says of where control went on, or else another value
abbrev pub where_went_on : {A : Type 0} → Trace → (Control → A) → A → A
where_went_on (did op more) f other = where_went_on more f other
where_went_on (showed place column x more) f other = where_went_on more f other
where_went_on (printed x more) f other = where_went_on more f other
where_went_on (went_on control) f other = f control
where_went_on (ended end) f other = other
where_went_on (damaged place column) f other = other

-- a run ends as one of the integer machine does
abbrev pub ends_as : Trace → IntegerRun → Type 0
ends_as (did op more) run = ends_as more run
ends_as (showed place column x more) run = ends_as more run
ends_as (printed x more) run = ends_as more run
ends_as (went_on control) run = integer_ending run ≡ spent_of_integers
ends_as (ended halts) run = integer_ending run ≡ halt_of_integers
ends_as (ended (traps kind line)) run = integer_ending run ≡ trap_of_integers kind line
ends_as (damaged place column) run = ⊥
