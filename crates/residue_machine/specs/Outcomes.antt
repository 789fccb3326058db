-- What the channels make of acts, for control to go on by.
use Rattle.std.specs.Prelude.{◌≡◌, ℕ, ℤ, List, [], ◌∷◌, Option, Some, None}
use Rattle.moduli_sets.specs.Set.{ModuliSet}
use Rattle.machine_table.specs.declared.instr.Instr.{Instr}
use Rattle.machine_table.specs.declared.instr.Instr.TheVariants as instr
use Rattle.machine_table.specs.Control.{Control, next, at_place}
use Rattle.channel_scheduler.specs.declared.rack.Rack.{Ghosts as RackGhosts}
use Rattle.micro_plan.specs.ActTree.{Acts}
use Rattle.shown_run.specs.Trace.{Trace, RunEnding, ending_of, prints_of, where_went_on}
use Rattle.shown_run.specs.Trace as trace
use Rattle.shown_run.specs.Runs.{shown}
use Rattle.residue_machine.specs.declared.outcome.Outcome.{Outcome}
use Rattle.residue_machine.specs.declared.outcome.Outcome.TheVariants.{Next, To, Print, End}
use Rattle.residue_machine.specs.Bench.{Bench}
use Rattle.residue_machine.specs.Machine.{Follows, decoding_of, ending_of_held}

-- How an instruction is performed: by one operation and no other act; or the channels tell all that control goes on by; or
-- the input or the return places have a part in it.
pub data Manner : Type 0 where
  operates : Manner
  shows : Manner
  steers : Manner

abbrev pub manner_of : Instr → Manner
manner_of instr.Halt = shows
manner_of (instr.Ldi a value) = operates
manner_of (instr.Ld a p) = operates
manner_of (instr.St a p) = operates
manner_of (instr.Ldx a b p q line) = shows
manner_of (instr.Stx a b p q line) = shows
manner_of (instr.Mov a b) = operates
manner_of (instr.Add a b c) = operates
manner_of (instr.Sub a b c) = operates
manner_of (instr.Mul a b c) = operates
manner_of (instr.Neg a b) = operates
manner_of (instr.Mac a b c) = operates
manner_of (instr.Div a b c line) = shows
manner_of (instr.Mod a b c line) = shows
manner_of (instr.Scl a b s) = shows
manner_of (instr.Jmp p) = shows
manner_of (instr.Blt a b p) = shows
manner_of (instr.Beq a b p) = shows
manner_of (instr.Chk a low high line) = shows
manner_of (instr.In a low high line) = steers
manner_of (instr.Out a) = shows
manner_of (instr.Call p line) = steers
manner_of (instr.Ret line) = steers
manner_of (instr.Trp k line) = shows

-- where control goes on, if it does
abbrev pub control_by : Outcome → Control → Option Control
control_by Next control = Some (next control)
control_by (To target) control = Some (at_place target control)
control_by (Print x) control = Some (next control)
control_by (End ended) control = None

abbrev pub prints_by : Outcome → List ℤ
prints_by Next = []
prints_by (To target) = []
prints_by (Print x) = x ∷ []
prints_by (End ended) = []

abbrev pub ending_by : Outcome → RunEnding
ending_by Next = trace.spent
ending_by (To target) = trace.spent
ending_by (Print x) = trace.spent
ending_by (End ended) = ending_of_held ended

module _ {R D : Type 0} (racks : RackGhosts R) (reach : ModuliSet → ℕ) (gone : Option ℕ) where
  -- what is shown of acts
  abbrev pub trace_of : Acts → Bench R D → Trace
  trace_of acts bench = shown (decoding_of racks reach gone bench) (racks.book_of bench.rack) acts (racks.lanes_of bench.rack)

  -- a trace took the channels from one state to another, and came to an outcome; its first operation has number t
  pub record Came (trace : Trace) (t : ℕ) (control : Control) (old : Bench R D) (outcome : Outcome) (new : Bench R D) : Type 0 where
    pub channels : Follows racks reach gone racks.IsUnderWay trace old new
    pub control_is : where_went_on trace (λ after. Some after) None ≡ control_by outcome control
    pub prints : prints_of trace ≡ prints_by outcome
    pub ending : ending_of t trace ≡ ending_by outcome

  -- acts were performed, and came to an outcome
  abbrev pub ComesTo : Acts → Control → Bench R D → Outcome → Bench R D → Type 0
  ComesTo acts control old outcome new = Came (trace_of acts old) old.issued control old outcome new

-- control goes on at a place of it, and nothing is printed
pub record GoesOn (outcome : Outcome) (control after : Control) : Type 0 where
  pub control_is : control_by outcome control ≡ Some after
  pub prints : prints_by outcome ≡ []
  pub ending : ending_by outcome ≡ trace.spent

-- an instruction that has a plan tells this line, where it tells one
abbrev pub tells_line : ℕ → Instr → Type 0
tells_line n (instr.Div a b c line) = n ≡ line
tells_line n (instr.Mod a b c line) = n ≡ line
tells_line n (instr.Scl a b s) = Unit {0}
tells_line n other = ⊥
