-- The run of a machine that was just loaded, while no more channels answer wrongly than one above the radius of its set.
use Rattle.std.specs.Prelude.{◌≡◌, ℕ, ◌<◌, ℤ, List, [], length, slice_index, None}
use Rattle.channel_alu.specs.declared.operation.MicroOp.{MicroOp}
use Rattle.channel_lane.specs.Lane.{LaneState}
use Rattle.channel_scheduler.specs.declared.rack.Rack.{Ghosts as RackGhosts}
use Rattle.fault_book.specs.Book.{Book}
use Rattle.fault_run.specs.FaultRun.{IsFaultRun, integer_trace}
use Rattle.lane_bank.specs.Bank.{lanes_at_start}
use Rattle.machine_table.specs.declared.instr.Instr.{Instr}
use Rattle.moduli_sets.specs.Set.{ModuliSet, radius}
use Rattle.number_text.specs.Lines.{print_lines}
use Rattle.outside.specs.Sink.{SinkState, WroteAll}
use Rattle.shown_run.specs.Decoded.{nearest}
use Rattle.shown_run.specs.Trace.{Trace, corrections_of, ending_of, operations_of, prints_of}
use Rattle.residue_machine.specs.declared.ending.Ending.{Ending}
use Rattle.residue_machine.specs.Machine.{IsEnding, MachineState, machine_at_start}

module _ {R D : Type 0} (racks : RackGhosts R) (set : ModuliSet) (code : List Instr) (words input : List ℤ) where
  -- The machine was just loaded with a program and an input, on a rack as it was made.
  pub record IsLoaded (machine : MachineState R D) : Type 0 where
    pub rack : R
    pub decoder : D
    pub is : machine ≡ machine_at_start set code words rack decoder input
    pub made : racks.IsUnderWay rack (lanes_at_start set 0 words) []

  module _ (After : R → List LaneState → List MicroOp → Type 0) {K : Type 0} (puts : K → List ℕ → K → Type 0) (state : K → SinkState) where
    -- A run of at most n instructions came out as the fault run: its prints were put, and it was answered how it ended; the
    -- rack has come as far as its operations, and the corrections of each channel are counted.
    pub record CameOutByFaults (n : ℕ) (book : Book) (before : K) (answer : Ending) (new : MachineState R D) (after : K) : Type 0 where
      pub trace : Trace
      pub fault_run : IsFaultRun (nearest (radius set) None set) book (lanes_at_start set 0 words) (integer_trace set code words input n) None set trace
      pub prints : WroteAll puts state before (print_lines (prints_of trace)) after
      pub ending : IsEnding (ending_of 0 trace) answer
      pub operations : After new.channels.rack (lanes_at_start set 0 words) (operations_of trace)
      pub corrections : (channel : ℕ) → channel < length set.moduli → slice_index new.channels.corrections channel ≡ corrections_of None set trace channel
