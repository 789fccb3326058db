-- A run is its first instruction, and then the rest.
use Rattle.std.proofs.Common.{◌≡◌, ℕ, suc, ◌+◌, List, ◌++◌, Option, None, Some, refl, sym, ap, ◌∙◌, subst, arith}
use Rattle.std.specs.Option.{option_map_or}
use Rattle.moduli_sets.specs.Set.{ModuliSet}
use Rattle.channel_alu.specs.declared.operation.MicroOp.{MicroOp}
use Rattle.channel_lane.specs.Lane.{LaneState}
use Rattle.lane_bank.specs.Bank.{lanes_after_all}
use Rattle.machine_table.specs.Control.{Control}
use Rattle.machine_table.specs.Integers.{instruction_at}
use Rattle.micro_plan.specs.Acts.{acts_of, acts_of_run}
use Rattle.channel_scheduler.specs.declared.rack.Rack.{Ghosts as RackGhosts}
use Rattle.shown_run.specs.Trace.{Trace, RunEnding, corrections_of, ending_of, operations_of, prints_of}
use Rattle.shown_run.specs.Runs.{control_after, performed_of, run_shown}
use Rattle.shown_run.specs.Joined.{then_trace}
use Rattle.shown_run.proofs.Joining.{shown-then}
use Rattle.residue_machine.specs.declared.ending.Stepped.{Stepped}
use Rattle.residue_machine.specs.Bench.{Performed}
use Rattle.residue_machine.specs.Machine.{MachineState, HasRun, HasStepped, decoding_of, end_of, prints_by, trace_from, trace_of_step}
use Rattle.residue_machine.proofs.BenchLemmas.{Performed-none, Performed-same, Performed-then}
use Rattle.residue_machine.proofs.TraceLemmas.{Joins, by_control, ends_there, goes_from, said_of, said_of_none, then_trace-ended, then_trace-went_on, went_from}

module _ {R D : Type 0} (racks : RackGhosts R) (reach : ModuliSet → ℕ) (gone : Option ℕ) where
  -- ---- the trace of a run
  -- by its first instruction
  abbrev rest_from : ℕ → MachineState R D → Control → List LaneState → Trace
  rest_from n old control lanes =
      run_shown (decoding_of racks reach gone old.channels) (racks.book_of old.channels.rack) old.channels.set old.channels.code n control lanes

  whole_trace : (n : ℕ) (old : MachineState R D) → trace_from racks reach gone (suc n) old ≡ then_trace (racks.book_of old.channels.rack) (trace_of_step racks reach gone old) (racks.lanes_of old.channels.rack) (rest_from n old)
  whole_trace n old =
      shown-then (decoding_of racks reach gone old.channels) (racks.book_of old.channels.rack)
      (acts_of old.channels.set (instruction_at old.channels.code old.control.counter) old.control) (racks.lanes_of old.channels.rack) (acts_of_run old.channels.set old.channels.code n)

  pub goes_on : (old mid : MachineState R D) (answer : Stepped) → HasStepped racks reach gone racks.IsUnderWay old answer mid → mid.ended ≡ None → went_from (trace_of_step racks reach gone old) ≡ Some mid.control
  goes_on old mid answer h on =
      goes_from (trace_of_step racks reach gone old) (ending_of old.channels.issued (trace_of_step racks reach gone old)) old.control (sym h.ended ∙ on) ∙ ap Some (sym h.control)

  pub joins : (n : ℕ) (old mid : MachineState R D) (answer : Stepped) → HasStepped racks reach gone racks.IsUnderWay old answer mid → mid.ended ≡ None → Joins (trace_of_step racks reach gone old) (trace_from racks reach gone n mid) (trace_from racks reach gone (suc n) old)
  joins n old mid answer h on =
      let t = trace_of_step racks reach gone old in
      let book = racks.book_of old.channels.rack in
      let lanes = racks.lanes_of old.channels.rack in
      let after = lanes_after_all book (operations_of t) lanes in
      let led : Joins t (rest_from n old mid.control after) (then_trace book t lanes (rest_from n old)) =
      then_trace-went_on book t lanes after (rest_from n old) mid.control (goes_on old mid answer h on) refl in
      subst (λ (w : Trace). Joins t (trace_from racks reach gone n mid) w) (sym (whole_trace n old))
      (subst (λ (r : Trace). Joins t r (then_trace book t lanes (rest_from n old)))
      (sym (Performed-same racks reach gone (λ decode book set code lanes. run_shown decode book set code n mid.control lanes) old.channels mid.channels h.channels)) led)

  -- ---- runs
  pub run-none : (old : MachineState R D) → old.ended ≡ None → HasRun racks reach gone racks.IsUnderWay 0 old old
  run-none old on = record {
    channels = Performed-none racks old.channels;
    control = refl;
    taken = omega arith;
    ended = on;
  }

  -- one instruction, and then the rest
  pub run-more : (After : R → List LaneState → List MicroOp → Type 0) (n : ℕ) (old mid new : MachineState R D) (answer : Stepped) → HasStepped racks reach gone racks.IsUnderWay old answer mid → mid.ended ≡ None → HasRun racks reach gone After n mid new → HasRun racks reach gone After (suc n) old new
  run-more After n old mid new answer h on r =
      let t = trace_of_step racks reach gone old in
      let rest = trace_from racks reach gone n mid in
      let whole = trace_from racks reach gone (suc n) old in
      let j = joins n old mid answer h on in
      let first = h.channels in
      let from = goes_on old mid answer h on in
      let book = racks.book_of old.channels.rack in
      let decode = decoding_of racks reach gone old.channels in
      let after = lanes_after_all book (operations_of t) (racks.lanes_of old.channels.rack) in
      record {
        channels =
            subst (λ (ops : List MicroOp). Performed racks After ops (corrections_of gone old.channels.set whole) old.channels new.channels) (sym j.operations)
            (Performed-then racks After (operations_of t) (operations_of rest) (corrections_of gone old.channels.set t) (corrections_of gone mid.channels.set rest) (corrections_of gone old.channels.set whole) old.channels mid.channels new.channels
            (λ i. j.corrections gone old.channels.set i ∙ ap (λ (s : ModuliSet). corrections_of gone old.channels.set t i + corrections_of gone s rest i) (sym first.set)) first r.channels);
        control = r.control
            ∙ Performed-same racks reach gone (λ decode book set code lanes. control_after decode book set code n mid.control lanes) old.channels mid.channels first
            ∙ sym (said_of t mid.control (λ next. control_after decode book old.channels.set old.channels.code n next after) old.control from);
        taken =
            let more = Performed-same racks reach gone (λ decode book set code lanes. performed_of decode book set code n mid.control lanes) old.channels mid.channels first
            ∙ sym (said_of t mid.control (λ next. performed_of decode book old.channels.set old.channels.code n next after) 0 from) in
            let a = r.taken in
            let b = h.taken in
            omega (arith, a, b, more);
        ended = r.ended
            ∙ by_control rest (λ control. None) (Some (ending_of mid.channels.issued rest))
            ∙ ap (λ (o : Option Control). option_map_or (λ control. None) o (Some (ending_of mid.channels.issued rest))) (sym j.control)
            ∙ ap (λ (e : RunEnding). option_map_or (λ control. None) (went_from whole) (Some e)) (ap (λ k. ending_of k rest) first.issued ∙ sym (j.ending old.channels.issued))
            ∙ sym (by_control whole (λ control. None) (Some (ending_of old.channels.issued whole)));
      }

  -- an instruction that ends the run is the whole of it
  pub last_trace : {After : R → List LaneState → List MicroOp → Type 0} (n : ℕ) (old new : MachineState R D) (answer : Stepped) (e : RunEnding) → HasStepped racks reach gone After old answer new → new.ended ≡ Some e → trace_from racks reach gone (suc n) old ≡ trace_of_step racks reach gone old
  last_trace n old new answer e h off =
      let t = trace_of_step racks reach gone old in
      whole_trace n old
      ∙ then_trace-ended (racks.book_of old.channels.rack) t (racks.lanes_of old.channels.rack) (rest_from n old) (ends_there t (ending_of old.channels.issued t) e (sym h.ended ∙ off))

  pub run-last : (After : R → List LaneState → List MicroOp → Type 0) (n : ℕ) (old new : MachineState R D) (answer : Stepped) (e : RunEnding) → HasStepped racks reach gone After old answer new → new.ended ≡ Some e → HasRun racks reach gone After (suc n) old new
  run-last After n old new answer e h off =
      let t = trace_of_step racks reach gone old in
      let from : went_from t ≡ None = ends_there t (ending_of old.channels.issued t) e (sym h.ended ∙ off) in
      let same : trace_from racks reach gone (suc n) old ≡ t =
      whole_trace n old ∙ then_trace-ended (racks.book_of old.channels.rack) t (racks.lanes_of old.channels.rack) (rest_from n old) from in
      let book = racks.book_of old.channels.rack in
      let decode = decoding_of racks reach gone old.channels in
      record {
        channels = subst (λ (w : Trace). Performed racks After (operations_of w) (corrections_of gone old.channels.set w) old.channels new.channels) (sym same) h.channels;
        control = h.control ∙ said_of_none t (λ control. control) old.control from
            ∙ sym (said_of_none t (λ next. control_after decode book old.channels.set old.channels.code n next (lanes_after_all book (operations_of t) (racks.lanes_of old.channels.rack))) old.control from);
        taken =
            let none = said_of_none t (λ next. performed_of decode book old.channels.set old.channels.code n next (lanes_after_all book (operations_of t) (racks.lanes_of old.channels.rack))) 0 from in
            let a = h.taken in
            omega (arith, a, none);
        ended = h.ended ∙ ap (λ (w : Trace). end_of old.channels.issued w) (sym same);
      }

  -- the prints of a run are those of its first instruction and of the rest
  pub prints-more : (n : ℕ) (old mid : MachineState R D) (answer : Stepped) → HasStepped racks reach gone racks.IsUnderWay old answer mid → mid.ended ≡ None → prints_of (trace_from racks reach gone (suc n) old) ≡ prints_by answer ++ prints_of (trace_from racks reach gone n mid)
  prints-more n old mid answer h on =
      (joins n old mid answer h on).prints ∙ ap (λ xs. xs ++ prints_of (trace_from racks reach gone n mid)) h.prints
