-- Runs of acts: over plain integers, over lanes, and of a finished trace over lanes that may answer wrongly.
use Rattle.std.specs.Prelude.{ℕ, zero, suc, ◌+◌, ℤ, List, Option}
use Rattle.std.specs.Option.{option_map_or}
use Rattle.moduli_sets.specs.Set.{ModuliSet}
use Rattle.moduli_sets.specs.Vector.{vector_of}
use Rattle.channel_alu.specs.declared.operation.Place.{Place}
use Rattle.channel_alu.specs.declared.operation.MicroOp.TheVariants.{Show}
use Rattle.fault_book.specs.Book.{Book}
use Rattle.channel_lane.specs.Meaning.{integers_after}
use Rattle.channel_lane.specs.Lane.{LaneState}
use Rattle.lane_bank.specs.Bank.{column_of, lanes_after, lanes_after_all}
use Rattle.machine_table.specs.declared.instr.Instr.{Instr}
use Rattle.machine_table.specs.Control.{Control}
use Rattle.machine_table.specs.Integers.{instruction_at}
use Rattle.micro_plan.specs.ActTree.{Acts, issue, ask, print, go_on, end_by}
use Rattle.micro_plan.specs.Acts.{acts_of, acts_of_run}
use Rattle.shown_run.specs.Trace.{Trace, did, showed, printed, went_on, ended, damaged, operations_of, where_went_on}

-- ---- acts that are told the integers which are held; each column is the vector of its integer
abbrev pub plain : List ℕ → Acts → (Place → ℤ) → Trace
plain moduli (issue op acts) at = did op (plain moduli acts (integers_after moduli op at))
plain moduli (ask place acts) at = showed place (vector_of moduli (at place)) (at place) (plain moduli (acts (at place)) at)
plain moduli (print x acts) at = printed x (plain moduli acts at)
plain moduli (go_on control) at = went_on control
plain moduli (end_by end) at = ended end

-- ---- how a column is decoded: the integer that control goes on with, where there is one
abbrev pub Decoding : Type 0
Decoding = List ℕ → Option ℤ

-- ---- acts that are told what the columns of the lanes are decoded to, up to one that isn't
abbrev pub shown : Decoding → Book → Acts → List LaneState → Trace
shown decode book (issue op acts) lanes = did op (shown decode book acts (lanes_after book op lanes))
shown decode book (ask place acts) lanes =
    let column = column_of book place lanes in
    option_map_or (λ x. showed place column x (shown decode book (acts x) (lanes_after book (Show place) lanes)))
    (decode column) (damaged place column)
shown decode book (print x acts) lanes = printed x (shown decode book acts lanes)
shown decode book (go_on control) lanes = went_on control
shown decode book (end_by end) lanes = ended end

-- ---- a trace as the lanes perform it: the columns are those that they give, and the first that isn't decoded ends it
abbrev pub faulty : Decoding → Book → Trace → List LaneState → Trace
faulty decode book (did op more) lanes = did op (faulty decode book more (lanes_after book op lanes))
faulty decode book (showed place v x more) lanes =
    let column = column_of book place lanes in
    option_map_or (λ y. showed place column y (faulty decode book more (lanes_after book (Show place) lanes)))
    (decode column) (damaged place column)
faulty decode book (printed x more) lanes = printed x (faulty decode book more lanes)
faulty decode book (went_on control) lanes = went_on control
faulty decode book (ended end) lanes = ended end
faulty decode book (damaged place column) lanes = damaged place column

-- ---- instructions, one after another
-- what one does
abbrev pub step_shown : Decoding → Book → ModuliSet → List Instr → Control → List LaneState → Trace
step_shown decode book set code control lanes =
    shown decode book (acts_of set (instruction_at code control.counter) control) lanes

-- what at most n do
abbrev pub run_shown : Decoding → Book → ModuliSet → List Instr → ℕ → Control → List LaneState → Trace
run_shown decode book set code n control lanes = shown decode book (acts_of_run set code n control) lanes

-- where control stands after at most n; an instruction that ends the run leaves it where it is
abbrev pub control_after : Decoding → Book → ModuliSet → List Instr → ℕ → Control → List LaneState → Control
control_after decode book set code zero control lanes = control
control_after decode book set code (suc n) control lanes =
    let trace = step_shown decode book set code control lanes in
    where_went_on trace
    (λ next. control_after decode book set code n next (lanes_after_all book (operations_of trace) lanes)) control

-- how many of at most n are performed; one that ends the run is
abbrev pub performed_of : Decoding → Book → ModuliSet → List Instr → ℕ → Control → List LaneState → ℕ
performed_of decode book set code zero control lanes = 0
performed_of decode book set code (suc n) control lanes =
    let trace = step_shown decode book set code control lanes in
    1 + where_went_on trace
    (λ next. performed_of decode book set code n next (lanes_after_all book (operations_of trace) lanes)) 0
