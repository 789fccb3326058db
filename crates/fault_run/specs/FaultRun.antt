-- The fault run, channel by channel: the integer run is finished first, and no channel has moved it.
use Rattle.std.specs.Prelude.{◌≡◌, ℕ, zero, suc, ◌+◌, ◌<◌, ℤ, Bool, true, false, ◌&&◌, List, [], ◌∷◌, length, map, take, count_by, slice_index, Option, None}
use Rattle.std.specs.List.{range_with_len}
use Rattle.std.specs.Option.{option_map_or}
use Rattle.moduli_sets.specs.Set.{IsModuliSet, ModuliSet}
use Rattle.channel_alu.specs.declared.operation.MicroOp.{MicroOp}
use Rattle.fault_book.specs.Book.{Book}
use Rattle.channel_lane.specs.Lane.{LaneState, answer_of, lane_after}
use Rattle.channel_lane.specs.Meaning.{integers_at_start}
use Rattle.machine_table.specs.declared.instr.Instr.{Instr}
use Rattle.machine_table.specs.Control.{control_at_start}
use Rattle.machine_table.specs.Faults.{IsSound}
use Rattle.machine_table.specs.Integers.{IsFit, integer_run}
use Rattle.micro_plan.specs.Acts.{acts_of_run}
use Rattle.shown_run.specs.Runs.{Decoding, plain}
use Rattle.shown_run.specs.Trace.{Trace, did, showed, printed, went_on, ended, damaged, damage, corrections_of, ending_of, is_corrected, operations_of, prints_of}

-- what the integer run of a program does, at most n instructions of it
abbrev pub integer_trace : ModuliSet → List Instr → List ℤ → List ℤ → ℕ → Trace
integer_trace set code words input n = plain set.moduli (acts_of_run set code n (control_at_start input)) (integers_at_start words)

-- The set is one, the program is sound on it, and no integer of its run leaves the range in n instructions.
pub record StaysInRange (set : ModuliSet) (code : List Instr) (words input : List ℤ) (n : ℕ) : Type 0 where
  pub rules : IsModuliSet set
  pub sound : IsSound set code words
  pub fit : IsFit (integer_run set code words n input)

-- ---- one channel by itself
-- its answers to a finished list of operations
abbrev pub answers_to : Book → List MicroOp → LaneState → List ℕ
answers_to book [] lane = []
answers_to book (op ∷ ops) lane = answer_of book op lane ∷ answers_to book ops (lane_after book op lane)

-- ---- a finished run, and what it had printed and shown when
-- whether its operation of this number shows a place
abbrev pub shows_at : Trace → ℕ → Bool
shows_at (did op more) zero = false
shows_at (did op more) (suc t) = shows_at more t
shows_at (showed place column x more) zero = true
shows_at (showed place column x more) (suc t) = shows_at more t
shows_at (printed x more) t = shows_at more t
shows_at (went_on control) t = false
shows_at (ended end) t = false
shows_at (damaged place column) t = false

-- what is printed before the operation of this number
abbrev pub prints_before : ℕ → Trace → List ℤ
prints_before t (printed x more) = x ∷ prints_before t more
prints_before zero (did op more) = []
prints_before (suc t) (did op more) = prints_before t more
prints_before zero (showed place column x more) = []
prints_before (suc t) (showed place column x more) = prints_before t more
prints_before t (went_on control) = []
prints_before t (ended end) = []
prints_before t (damaged place column) = []

-- ---- all channels
module _ (decode : Decoding) (book : Book) (lanes : List LaneState) (run : Trace) where
  -- the answers of the channels to the operation of this number; they are a column where it shows a place
  abbrev pub column_at : ℕ → List ℕ
  column_at t = map (λ lane. slice_index (answers_to book (operations_of run) lane) t) lanes

  -- a column that the decoder tells no integer of
  pub record IsBad (t : ℕ) : Type 0 where
    pub is_column : shows_at run t ≡ true
    pub unexplained : decode (column_at t) ≡ None

  pub record IsFirstBad (t : ℕ) : Type 0 where
    pub bad : IsBad t
    pub first : (s : ℕ) → s < t → ¬ IsBad s

  abbrev pub NoneIsBad : Type 0
  NoneIsBad = (t : ℕ) → ¬ IsBad t

  -- how many columns before number t are corrected in a channel: their integer has another residue there
  abbrev pub corrected_before : Option ℕ → ModuliSet → ℕ → ℕ → ℕ
  corrected_before erased set channel t =
      count_by (λ s. shows_at run s && option_map_or (is_corrected erased set channel (column_at s)) (decode (column_at s)) false) (range_with_len 0 t)

  -- ---- the fault run
  module _ (erased : Option ℕ) (set : ModuliSet) where
    -- It prints and ends as the finished run, after the same operations, and its corrections are those of all columns.
    pub record IsWhole (faulty : Trace) : Type 0 where
      pub prints : prints_of faulty ≡ prints_of run
      pub ending : ending_of 0 faulty ≡ ending_of 0 run
      pub operations : operations_of faulty ≡ operations_of run
      pub corrections : (channel : ℕ) → corrections_of erased set faulty channel ≡ corrected_before erased set channel (length (operations_of run))

    -- It ends with damage at the column of this number, and has printed what came before; its corrections are those of the
    -- columns before it.
    pub record IsCutAt (t : ℕ) (faulty : Trace) : Type 0 where
      pub prints : prints_of faulty ≡ prints_before t run
      pub ending : ending_of 0 faulty ≡ damage t (column_at t)
      pub operations : operations_of faulty ≡ take (t + 1) (operations_of run)
      pub corrections : (channel : ℕ) → corrections_of erased set faulty channel ≡ corrected_before erased set channel t

    -- whole where no column is bad, and else cut at the first that is
    pub record IsFaultRun (faulty : Trace) : Type 0 where
      pub whole : NoneIsBad → IsWhole faulty
      pub cut : (t : ℕ) → IsFirstBad t → IsCutAt t faulty
