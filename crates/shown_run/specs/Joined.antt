-- A trace, and then another from where control went on.
use Rattle.std.specs.Prelude.{List}
use Rattle.channel_alu.specs.declared.operation.MicroOp.TheVariants.{Show}
use Rattle.fault_book.specs.Book.{Book}
use Rattle.channel_lane.specs.Lane.{LaneState}
use Rattle.lane_bank.specs.Bank.{lanes_after}
use Rattle.machine_table.specs.Control.{Control}
use Rattle.shown_run.specs.Trace.{Trace, did, showed, printed, went_on, ended, damaged}

-- the lanes that it began with are those to which its operations were issued
abbrev pub then_trace : Book → Trace → List LaneState → (Control → List LaneState → Trace) → Trace
then_trace book (did op more) lanes next = did op (then_trace book more (lanes_after book op lanes) next)
then_trace book (showed place column x more) lanes next =
    showed place column x (then_trace book more (lanes_after book (Show place) lanes) next)
then_trace book (printed x more) lanes next = printed x (then_trace book more lanes next)
then_trace book (went_on control) lanes next = next control lanes
then_trace book (ended end) lanes next = ended end
then_trace book (damaged place column) lanes next = damaged place column
