-- Runs that are shown while acts stay true to the integers: one induction, and what is kept by it.
use Rattle.std.proofs.Common.{◌≡◌, ℕ, ℤ, List, length, Option, None, Some, inl, inr, sym, subst}
use Rattle.std.specs.Option.{option_map_or}
use Rattle.moduli_sets.specs.Set.{ModuliSet, IsModuliSet}
use Rattle.channel_alu.specs.declared.operation.Place.{Place}
use Rattle.channel_alu.specs.declared.operation.MicroOp.{MicroOp}
use Rattle.channel_alu.specs.declared.operation.MicroOp.TheVariants.{Show}
use Rattle.fault_book.specs.Book.{Book}
use Rattle.channel_lane.specs.Lane.{LaneState}
use Rattle.channel_lane.specs.Meaning.{CanPerform, integers_after}
use Rattle.lane_bank.specs.Bank.{column_of, lanes_after}
use Rattle.machine_table.specs.Control.{Control, End}
use Rattle.micro_plan.specs.ActTree.{Acts, issue, ask, print, go_on, end_by, AllOperations}
use Rattle.micro_plan.specs.Told.{AreInRange, StayTrue}
use Rattle.shown_run.specs.Trace.{Trace, did, showed, printed, went_on, ended, damaged}
use Rattle.shown_run.specs.Runs.{Decoding, shown}
use Rattle.fault_run.specs.Telling.{IsColumnOf, TellsNoOther}
use Rattle.fault_run.proofs.RightLanes.{AreRightLanes, IsColumnOf-shown, lanes-after}

-- what is said of acts, the integers and the lanes that they begin with, and the trace that they give
abbrev pub Saying : Type 1
Saying = Acts → (Place → ℤ) → List LaneState → Trace → Type 0

module _ (decode : Decoding) (set : ModuliSet) (words : ℕ) (book : Book) where
  -- It is said of acts where it is said of what follows their first: an operation; a Show of which the integer is told, or of
  -- which there is none; a print.
  pub record IsKept (Said : Saying) : Type 0 where
    pub issues : (op : MicroOp) (acts : Acts) (at : Place → ℤ) (lanes : List LaneState) (more : Trace) → AreRightLanes set words book at lanes
        → Said acts (integers_after set.moduli op at) (lanes_after book op lanes) more → Said (issue op acts) at lanes (did op more)
    pub tells : (place : Place) (acts : ℤ → Acts) (at : Place → ℤ) (lanes : List LaneState) (more : Trace) → AreRightLanes set words book at lanes
        → IsColumnOf set book (column_of book place lanes) (at place) → decode (column_of book place lanes) ≡ Some (at place)
        → Said (acts (at place)) at (lanes_after book (Show place) lanes) more → Said (ask place acts) at lanes (showed place (column_of book place lanes) (at place) more)
    pub stops : (place : Place) (acts : ℤ → Acts) (at : Place → ℤ) (lanes : List LaneState) → AreRightLanes set words book at lanes
        → AreRightLanes set words book at (lanes_after book (Show place) lanes)
        → IsColumnOf set book (column_of book place lanes) (at place) → decode (column_of book place lanes) ≡ None
        → Said (ask place acts) at lanes (damaged place (column_of book place lanes))
    pub prints : (x : ℤ) (acts : Acts) (at : Place → ℤ) (lanes : List LaneState) (more : Trace) → Said acts at lanes more → Said (print x acts) at lanes (printed x more)
    pub goes : (control : Control) (at : Place → ℤ) (lanes : List LaneState) → AreRightLanes set words book at lanes → Said (go_on control) at lanes (went_on control)
    pub ends : (end : End) (at : Place → ℤ) (lanes : List LaneState) → AreRightLanes set words book at lanes → Said (end_by end) at lanes (ended end)

  module _ (rules : IsModuliSet set) (tells_it : TellsNoOther decode set book) (Said : Saying) (kept : IsKept Said) where
    pub said : (acts : Acts) (at : Place → ℤ) (lanes : List LaneState) → AreRightLanes set words book at lanes → AllOperations (CanPerform words (length set.moduli)) acts
        → StayTrue set acts at → AreInRange set at → Said acts at lanes (shown decode book acts lanes)
    said (issue op acts) at lanes right can true fits =
        kept.issues op acts at lanes (shown decode book acts (lanes_after book op lanes)) right
        (said acts (integers_after set.moduli op at) (lanes_after book op lanes) (lanes-after set words book at op lanes can.0 true.0 right) can.1 true.2 true.1)
    said (ask place acts) at lanes right can true fits =
        let x = at place in
        let column = column_of book place lanes in
        let after = lanes_after book (Show place) lanes in
        let is = IsColumnOf-shown set words book at place lanes rules can.0 (fits place) right in
        let right_after = lanes-after set words book at (Show place) lanes can.0 tt right in
        let By : Option ℤ → Type 0 = λ o. Said (ask place acts) at lanes (option_map_or (λ y. showed place column y (shown decode book (acts y) after)) o (damaged place column)) in
        elim (tells_it column x is) [
          | inl none ↦ subst By (sym none) (kept.stops place acts at lanes right right_after is none)
          | inr told ↦ subst By (sym told) (kept.tells place acts at lanes (shown decode book (acts x) after) right is told (said (acts x) at after right_after (can.1 x) true fits))
        ]
    said (print x acts) at lanes right can true fits = kept.prints x acts at lanes (shown decode book acts lanes) (said acts at lanes right can true fits)
    said (go_on control) at lanes right can true fits = kept.goes control at lanes right
    said (end_by end) at lanes right can true fits = kept.ends end at lanes right
