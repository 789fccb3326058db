-- A machine that was just loaded runs as the fault run.
use Rattle.std.proofs.Common.{◌≡◌, ◌≢◌, ℕ, ◌+◌, ◌<◌, ℤ, List, [], length, replicate, slice_index, None, refl, sym, ap, ◌∙◌, subst, arith}
use Rattle.std.proofs.lemmas.List.{get_or-replicate, length-replicate}
use Rattle.channel_lane.specs.Lane.{LaneState}
use Rattle.channel_scheduler.specs.declared.rack.Rack.{Ghosts as RackGhosts}
use Rattle.fault_book.specs.Book.{Book}
use Rattle.fault_run.specs.FaultRun.{IsFaultRun, integer_trace}
use Rattle.lane_bank.specs.Bank.{lanes_at_start}
use Rattle.machine_table.specs.Control.{control_at_start}
use Rattle.machine_table.specs.declared.instr.Instr.{Instr}
use Rattle.moduli_sets.specs.Set.{ModuliSet, radius}
use Rattle.outside.specs.Sink.{SinkState}
use Rattle.shown_run.specs.Decoded.{nearest}
use Rattle.shown_run.specs.Runs.{run_shown}
use Rattle.shown_run.specs.Trace.{Trace, corrections_of, operations_of}
use Rattle.residue_machine.specs.Bench.{Bench, HasSettled}
use Rattle.residue_machine.specs.declared.ending.Ending.{Ending}
use Rattle.residue_machine.specs.declared.ending.Ending.TheVariants as ending
use Rattle.residue_machine.specs.FaultyRuns.{CameOutByFaults, IsLoaded}
use Rattle.residue_machine.specs.Machine.{CameOut, IsRun, MachineState, RunsOut, machine_at_start, trace_from}

module _ (set : ModuliSet) (code : List Instr) (words input : List ℤ) (n : ℕ) where
  abbrev start : List LaneState
  start = lanes_at_start set 0 words

  abbrev by : Book → List LaneState → Trace
  by book lanes = run_shown (nearest (radius set) None set) book set code n (control_at_start input) lanes

  abbrev FaultRun : Book → Trace → Type 0
  FaultRun book trace = IsFaultRun (nearest (radius set) None set) book start (integer_trace set code words input n) None set trace

  module _ {R D K : Type 0} (racks : RackGhosts R) (puts : K → List ℕ → K → Type 0) (state : K → SinkState) (before after : K) where
    came_out : (old mid : MachineState R D) (answer : Ending) → answer ≢ ending.SinkFailed
        → RunsOut racks radius None racks.IsUnderWay puts state n old before answer mid after → CameOut racks radius None racks.IsUnderWay puts state n old before answer mid after
    came_out old mid ending.Halt whole h = h
    came_out old mid (ending.Trap kind line) whole h = h
    came_out old mid (ending.Damage t column) whole h = h
    came_out old mid ending.Spent whole h = h
    came_out old mid ending.SinkFailed whole h = absurd (whole refl)

    from_start : (rack : R) (decoder : D) (mid new : MachineState R D) (answer : Ending) → racks.IsUnderWay rack start [] → racks.lanes_of rack ≡ start
        → FaultRun (racks.book_of rack) (by (racks.book_of rack) start) → answer ≢ ending.SinkFailed
        → IsRun racks radius None racks.IsUnderWay puts state n (machine_at_start set code words rack decoder input) before answer mid after → HasSettled racks mid.channels new.channels
        → CameOutByFaults racks set code words input racks.HasEnded puts state n (racks.book_of rack) before answer new after
    from_start rack decoder mid new answer made lanes runs whole h settled =
        let old : MachineState R D = machine_at_start set code words rack decoder input in
        let trace : Trace = trace_from racks radius None n old in
        let came = came_out old mid answer whole h in
        let channels = length set.moduli in
        let long : length (replicate channels 0) ≡ channels = length-replicate {A = ℕ} channels 0 in
        record {
          trace = trace;
          fault_run = subst (λ (ls : List LaneState). FaultRun (racks.book_of rack) (by (racks.book_of rack) ls)) (sym lanes) runs;
          prints = came.prints;
          ending = came.ending;
          operations = settled.run start (operations_of trace) (came.run.channels.run start [] made);
          corrections = λ i inside.
              ap (λ (b : Bench R D). slice_index b.corrections i) settled.rack
              ∙ came.run.channels.corrections i (subst (λ (m : ℕ). i < m) (sym long) inside)
              ∙ ap (λ k. k + corrections_of None set trace i) (get_or-replicate channels i 0 0 inside)
              ∙ omega arith;
        }

    pub by_faults : (old mid new : MachineState R D) (answer : Ending) → (loaded : IsLoaded racks set code words input old)
        → ((rack : R) → racks.IsUnderWay rack start [] → racks.lanes_of rack ≡ start)
        → FaultRun (racks.book_of old.channels.rack) (by (racks.book_of old.channels.rack) start) → answer ≢ ending.SinkFailed
        → IsRun racks radius None racks.IsUnderWay puts state n old before answer mid after → HasSettled racks mid.channels new.channels
        → CameOutByFaults racks set code words input racks.HasEnded puts state n (racks.book_of old.channels.rack) before answer new after
    by_faults old mid new answer loaded lanes runs whole h settled =
        let first : MachineState R D = machine_at_start set code words loaded.rack loaded.decoder input in
        subst (λ (o : MachineState R D). FaultRun (racks.book_of o.channels.rack) (by (racks.book_of o.channels.rack) start)
        → IsRun racks radius None racks.IsUnderWay puts state n o before answer mid after
        → CameOutByFaults racks set code words input racks.HasEnded puts state n (racks.book_of o.channels.rack) before answer new after)
        (sym loaded.is)
        (λ runs_first h_first. from_start loaded.rack loaded.decoder mid new answer loaded.made (lanes loaded.rack loaded.made) runs_first whole h_first settled)
        runs h
