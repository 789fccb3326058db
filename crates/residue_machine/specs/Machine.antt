-- What a machine is between two calls, and how its instructions take it on: one of the shown run after another.
use Rattle.std.specs.Prelude.{◌≡◌, ℕ, ◌+◌, ◌*◌, ◌<◌, ◌≤◌, ◌^◌, ℤ, List, [], ◌∷◌, length, Option, Some, None}
use Rattle.channel_alu.specs.declared.operation.MicroOp.{MicroOp}
use Rattle.channel_lane.specs.Lane.{LaneState}
use Rattle.number_text.specs.Lines.{print_lines}
use Rattle.outside.specs.Sink.{SinkState, BrokeOff, WroteAll}
use Rattle.machine_table.specs.Control.{Control, control_at_start}
use Rattle.channel_scheduler.specs.declared.rack.Rack.{Ghosts as RackGhosts}
use Rattle.moduli_sets.specs.Set.{ModuliSet}
use Rattle.machine_table.specs.declared.instr.Instr.{Instr}
use Rattle.shown_run.specs.Decoded.{nearest}
use Rattle.shown_run.specs.Trace.{Trace, RunEnding, corrections_of, ending_of, operations_of, prints_of, where_went_on}
use Rattle.shown_run.specs.Trace as trace
use Rattle.shown_run.specs.Runs.{Decoding, control_after, performed_of, run_shown, step_shown}
use Rattle.residue_machine.specs.declared.ending.Ending.{Ending}
use Rattle.residue_machine.specs.declared.ending.Ending.TheVariants as ending
use Rattle.residue_machine.specs.declared.ending.Ended.{Ended}
use Rattle.residue_machine.specs.declared.ending.Ended.TheVariants as ended
use Rattle.residue_machine.specs.declared.ending.Stepped.{Stepped}
use Rattle.residue_machine.specs.declared.ending.Stepped.TheVariants as stepped
use Rattle.residue_machine.specs.Bench.{Bench, Performed, channels_at_start}

-- a program under way: its channels, where control stands, how many instructions were performed, and how it ended, where it did
pub record MachineState (R D : Type 0) : Type 0 where
  pub channels : Bench R D
  pub control : Control
  pub taken : ℕ
  pub ended : Option RunEnding

-- a machine that was just loaded
abbrev pub machine_at_start : {R D : Type 0} → ModuliSet → List Instr → List ℤ → R → D → List ℤ → MachineState R D
machine_at_start set code words rack decoder input = record {
  channels = channels_at_start set code words rack decoder;
  control = control_at_start input;
  taken = 0;
  ended = None;
}

-- an instruction has fewer than 100,000 operations, and no more than 10^12 are performed
pub record IsWithinTurns (issued taken : ℕ) : Type 0 where
  pub few : issued ≤ 100000 * taken
  pub small : taken ≤ 10 ^ 12

-- the ending that a machine holds
abbrev pub ending_of_held : Ended → RunEnding
ending_of_held ended.Halt = trace.halt
ending_of_held (ended.Trap kind line) = trace.trap kind line
ending_of_held (ended.Damage t column) = trace.damage t column

abbrev pub ending_held : Option Ended → Option RunEnding
ending_held None = None
ending_held (Some e) = Some (ending_of_held e)

-- a machine by what it is made of
abbrev pub machine_of : {R D : Type 0} → Bench R D → Control → ℕ → Option Ended → MachineState R D
machine_of channels control taken ended = record { channels = channels; control = control; taken = taken; ended = ending_held ended }

-- how a trace ended the run, where it did; its first operation has number t
abbrev pub end_of : ℕ → Trace → Option RunEnding
end_of t trace = where_went_on trace (λ control. None) (Some (ending_of t trace))

-- ---- answers
-- what the answer to one instruction says of its prints, and how it came out
abbrev pub prints_by : Stepped → List ℤ
prints_by stepped.On = []
prints_by (stepped.Print x) = x ∷ []
prints_by stepped.Halt = []
prints_by (stepped.Trap kind line) = []
prints_by (stepped.Damage t column) = []

abbrev pub ending_by : Stepped → RunEnding
ending_by stepped.On = trace.spent
ending_by (stepped.Print x) = trace.spent
ending_by stepped.Halt = trace.halt
ending_by (stepped.Trap kind line) = trace.trap kind line
ending_by (stepped.Damage t column) = trace.damage t column

-- the answer is no other than this ending
abbrev pub IsEnding : RunEnding → Ending → Type 0
IsEnding e ending.Halt = e ≡ trace.halt
IsEnding e (ending.Trap kind line) = e ≡ trace.trap kind line
IsEnding e (ending.Damage t column) = e ≡ trace.damage t column
IsEnding e ending.Spent = e ≡ trace.spent
IsEnding e ending.SinkFailed = ⊥

module _ {R D : Type 0} (racks : RackGhosts R) (After : R → List LaneState → List MicroOp → Type 0) where
  -- After an ending the same is answered again, and nothing changes.
  pub record HasRepeated (e : RunEnding) (old : MachineState R D) (new : MachineState R D) : Type 0 where
    pub channels : Performed racks After [] (λ i. 0) old.channels new.channels
    pub control : new.control ≡ old.control
    pub taken : new.taken ≡ old.taken
    pub ended : new.ended ≡ Some e

-- By how many residues a column may differ from that of the integer that it tells, by the set, and the channel that is left
-- out of account, where one is.
module _ {R D : Type 0} (racks : RackGhosts R) (reach : ModuliSet → ℕ) (gone : Option ℕ) where
  -- how columns are decoded
  abbrev pub decoding_of : Bench R D → Decoding
  decoding_of bench = nearest (reach bench.set) gone bench.set

  -- the trace of at most n instructions, from where a machine stands
  abbrev pub trace_from : ℕ → MachineState R D → Trace
  trace_from n old =
      run_shown (decoding_of old.channels) (racks.book_of old.channels.rack) old.channels.set old.channels.code n old.control
      (racks.lanes_of old.channels.rack)

  -- and of one
  abbrev pub trace_of_step : MachineState R D → Trace
  trace_of_step old =
      step_shown (decoding_of old.channels) (racks.book_of old.channels.rack) old.channels.set old.channels.code old.control
      (racks.lanes_of old.channels.rack)

  -- the channels did what a trace says
  abbrev pub Follows : (R → List LaneState → List MicroOp → Type 0) → Trace → Bench R D → Bench R D → Type 0
  Follows After trace old new = Performed racks After (operations_of trace) (corrections_of gone old.set trace) old new

  module _ (After : R → List LaneState → List MicroOp → Type 0) where
    -- One instruction was performed, and answered: it is the next one of the shown run.
    pub record HasStepped (old : MachineState R D) (answer : Stepped) (new : MachineState R D) : Type 0 where
      pub channels : Follows After (trace_of_step old) old.channels new.channels
      pub control : new.control ≡ where_went_on (trace_of_step old) (λ control. control) old.control
      pub taken : new.taken ≡ old.taken + 1
      pub ended : new.ended ≡ end_of old.channels.issued (trace_of_step old)
      pub prints : prints_of (trace_of_step old) ≡ prints_by answer
      pub ending : ending_of old.channels.issued (trace_of_step old) ≡ ending_by answer

    -- what a step owes, by whether the run has ended before it
    abbrev pub StepsOn : Option RunEnding → MachineState R D → Stepped → MachineState R D → Type 0
    StepsOn None old answer new = HasStepped old answer new
    StepsOn (Some e) old answer new = HasRepeated racks After e old new × (ending_by answer ≡ e) × (prints_by answer ≡ [])

    abbrev pub IsStep : MachineState R D → Stepped → MachineState R D → Type 0
    IsStep old answer new = StepsOn old.ended old answer new

    -- At most n instructions were performed: they are the next ones of the shown run.
    pub record HasRun (n : ℕ) (old new : MachineState R D) : Type 0 where
      pub channels : Follows After (trace_from n old) old.channels new.channels
      pub control : new.control
          ≡ control_after (decoding_of old.channels) (racks.book_of old.channels.rack) old.channels.set old.channels.code n old.control (racks.lanes_of old.channels.rack)
      pub taken : new.taken
          ≡ old.taken + performed_of (decoding_of old.channels) (racks.book_of old.channels.rack) old.channels.set old.channels.code n old.control (racks.lanes_of old.channels.rack)
      pub ended : new.ended ≡ end_of old.channels.issued (trace_from n old)

    module _ {K : Type 0} (puts : K → List ℕ → K → Type 0) (state : K → SinkState) where
      -- The run came out by itself, or after all its instructions: each print was one put of a line, and none failed.
      pub record CameOut (n : ℕ) (old : MachineState R D) (before : K) (answer : Ending) (new : MachineState R D) (after : K) : Type 0 where
        pub run : HasRun n old new
        pub ending : IsEnding (ending_of old.channels.issued (trace_from n old)) answer
        pub prints : WroteAll puts state before (print_lines (prints_of (trace_from n old))) after

      -- The put of a print failed. The instructions through that one are performed, and none after it.
      pub record FailedAfter (n k : ℕ) (old : MachineState R D) (before : K) (new : MachineState R D) (after : K) : Type 0 where
        pub some : 0 < k
        pub limit : k ≤ n
        pub run : HasRun k old new
        pub goes_on : new.ended ≡ None
        -- the last of them is the one that printed last
        pub last : (j : ℕ) → j < k → length (prints_of (trace_from j old)) < length (prints_of (trace_from k old))
        pub prints : BrokeOff puts state before (print_lines (prints_of (trace_from k old))) after

      -- what a run of at most n instructions owes by its answer, where the run hadn't ended before it
      abbrev pub RunsOut : ℕ → MachineState R D → K → Ending → MachineState R D → K → Type 0
      RunsOut n old before ending.Halt new after = CameOut n old before ending.Halt new after
      RunsOut n old before (ending.Trap kind line) new after = CameOut n old before (ending.Trap kind line) new after
      RunsOut n old before (ending.Damage t column) new after = CameOut n old before (ending.Damage t column) new after
      RunsOut n old before ending.Spent new after = CameOut n old before ending.Spent new after
      RunsOut n old before ending.SinkFailed new after = (k : ℕ) × FailedAfter n k old before new after

      -- and where it had: the same again, and nothing is put
      abbrev pub RunsOn : Option RunEnding → ℕ → MachineState R D → K → Ending → MachineState R D → K → Type 0
      RunsOn None n old before answer new after = RunsOut n old before answer new after
      RunsOn (Some e) n old before answer new after = HasRepeated racks After e old new × IsEnding e answer × (after ≡ before)

      abbrev pub IsRun : ℕ → MachineState R D → K → Ending → MachineState R D → K → Type 0
      IsRun n old before answer new after = RunsOn old.ended n old before answer new after
