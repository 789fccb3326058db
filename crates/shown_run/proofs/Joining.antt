-- Acts, and then others: what is shown of them, one after the other.
use Rattle.std.proofs.Common.{◌≡◌, ℤ, List, Option, None, Some, refl, ap}
use Rattle.std.specs.Option.{option_map_or}
use Rattle.channel_alu.specs.declared.operation.MicroOp.TheVariants.{Show}
use Rattle.fault_book.specs.Book.{Book}
use Rattle.channel_lane.specs.Lane.{LaneState}
use Rattle.lane_bank.specs.Bank.{column_of, lanes_after}
use Rattle.machine_table.specs.Control.{Control}
use Rattle.micro_plan.specs.ActTree.{Acts, issue, ask, print, go_on, end_by, then_acts}
use Rattle.shown_run.specs.Trace.{Trace, did, showed, printed, damaged}
use Rattle.shown_run.specs.Runs.{Decoding, shown}
use Rattle.shown_run.specs.Joined.{then_trace}

-- a choice by what a column is decoded to, under a function
chosen : (F : Trace → Trace) (f g : ℤ → Trace) (bad : Trace) (o : Option ℤ) → bad ≡ F bad → ((x : ℤ) → f x ≡ F (g x)) → option_map_or f o bad ≡ F (option_map_or g o bad)
chosen F f g bad None none each = none
chosen F f g bad (Some x) none each = each x

pub shown-then : (decode : Decoding) (book : Book) (acts : Acts) (lanes : List LaneState) (next : Control → Acts) → shown decode book (then_acts acts next) lanes ≡ then_trace book (shown decode book acts lanes) lanes (λ control after. shown decode book (next control) after)
shown-then decode book (issue op acts) lanes next = ap (did op) (shown-then decode book acts (lanes_after book op lanes) next)
shown-then decode book (ask place acts) lanes next =
    let column = column_of book place lanes in
    let after = lanes_after book (Show place) lanes in
    chosen (λ t. then_trace book t lanes (λ control ls. shown decode book (next control) ls))
    (λ x. showed place column x (shown decode book (then_acts (acts x) next) after))
    (λ x. showed place column x (shown decode book (acts x) after))
    (damaged place column) (decode column) refl
    (λ x. ap (showed place column x) (shown-then decode book (acts x) after next))
shown-then decode book (print x acts) lanes next = ap (printed x) (shown-then decode book acts lanes next)
shown-then decode book (go_on control) lanes next = refl
shown-then decode book (end_by end) lanes next = refl
