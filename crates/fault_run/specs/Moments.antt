-- What holds at each moment of a run in which the faults come from named channels alone.
use Rattle.std.specs.Prelude.{◌≡◌, ℕ, ◌<◌, ℤ, List, [], ◌∷◌, ◌++◌, false, length}
use Rattle.moduli_sets.specs.Set.{ModuliSet}
use Rattle.channel_alu.specs.declared.operation.Place.{Place}
use Rattle.channel_alu.specs.declared.operation.MicroOp.{MicroOp}
use Rattle.fault_book.specs.Book.{Book, is_faulty}
use Rattle.channel_lane.specs.Meaning.{integers_after}
use Rattle.channel_lane.specs.Lane.{HoldsResidues, LaneState}
use Rattle.lane_bank.specs.Bank.{lane_at, lanes_after}
use Rattle.machine_table.specs.Integers.{IntegerRun, printed_by}
use Rattle.shown_run.specs.Trace.{Trace, did, showed, printed, went_on, ended, damaged, ends_as, prints_of}
use Rattle.fault_run.specs.Telling.{IsColumnOf}

-- each lane of a channel that isn't named holds the residues of the integers
abbrev pub HoldUnnamed : ModuliSet → Book → List LaneState → (Place → ℤ) → Type 0
HoldUnnamed set book lanes at =
    (channel : ℕ) → channel < length set.moduli → is_faulty book channel ≡ false → HoldsResidues (lane_at lanes channel) at

-- so they do before a list of operations, and after each of them
abbrev pub HoldUnnamedThrough : ModuliSet → Book → List MicroOp → List LaneState → (Place → ℤ) → Type 0
HoldUnnamedThrough set book [] lanes at = HoldUnnamed set book lanes at
HoldUnnamedThrough set book (op ∷ ops) lanes at =
    HoldUnnamed set book lanes at × HoldUnnamedThrough set book ops (lanes_after book op lanes) (integers_after set.moduli op at)

-- each column that was shown differs from the vector of its integer, which is in range, in named channels alone
abbrev pub ShowsUnnamed : ModuliSet → Book → Trace → Type 0
ShowsUnnamed set book (did op more) = ShowsUnnamed set book more
ShowsUnnamed set book (showed place column x more) = IsColumnOf set book column x × ShowsUnnamed set book more
ShowsUnnamed set book (printed x more) = ShowsUnnamed set book more
ShowsUnnamed set book (went_on control) = Unit {0}
ShowsUnnamed set book (ended end) = Unit {0}
ShowsUnnamed set book (damaged place column) = Unit {0}

-- a run stopped by damage
abbrev pub IsDamaged : Trace → Type 0
IsDamaged (did op more) = IsDamaged more
IsDamaged (showed place column x more) = IsDamaged more
IsDamaged (printed x more) = IsDamaged more
IsDamaged (went_on control) = ⊥
IsDamaged (ended end) = ⊥
IsDamaged (damaged place column) = Unit {0}

-- a trace prints and ends as a run of the integer machine
pub record RunsAs (trace : Trace) (run : IntegerRun) : Type 0 where
  pub prints : prints_of trace ≡ printed_by run
  pub ending : ends_as trace run

-- it prints a front of that, and the whole where no damage stops it
pub record RunsUpToDamage (trace : Trace) (run : IntegerRun) : Type 0 where
  pub unprinted : List ℤ
  pub front : printed_by run ≡ prints_of trace ++ unprinted
  pub whole : ¬ IsDamaged trace → RunsAs trace run
