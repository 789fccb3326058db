-- What a run puts: the prints of its first instruction, and then those of the rest.
use Rattle.std.proofs.Common.{◌≡◌, ℕ, zero, suc, ◌+◌, ◌<◌, ℤ, List, [], ◌∷◌, ◌++◌, length, Option, false, None, Some, refl, sym, ap, ◌∙◌, subst, arith}
use Rattle.std.proofs.lemmas.List.{length-append, map-append}
use Rattle.std.specs.Fmt.{signed_decimal}
use Rattle.number_text.specs.Lines.{line, print_lines}
use Rattle.outside.specs.Sink.{SinkState, BrokeOff, WroteAll}
use Rattle.outside.proofs.Runs.{BrokeOff-append, WroteAll-append, WroteAll-none}
use Rattle.moduli_sets.specs.Set.{ModuliSet}
use Rattle.channel_alu.specs.declared.operation.MicroOp.{MicroOp}
use Rattle.channel_lane.specs.Lane.{LaneState}
use Rattle.channel_scheduler.specs.declared.rack.Rack.{Ghosts as RackGhosts}
use Rattle.shown_run.specs.Trace.{RunEnding, ending_of, prints_of}
use Rattle.residue_machine.specs.declared.ending.Ending.{Ending}
use Rattle.residue_machine.specs.declared.ending.Ending.TheVariants as ending
use Rattle.residue_machine.specs.declared.ending.Stepped.{Stepped}
use Rattle.residue_machine.specs.Machine.{MachineState, CameOut, FailedAfter, HasStepped, IsEnding, IsRun, IsStep, RunsOn, RunsOut, ending_by, prints_by, trace_from}
use Rattle.residue_machine.proofs.StepLemmas.{is_over, is_spent, repeated, step-own}
use Rattle.residue_machine.proofs.RunLemmas.{joins, last_trace, prints-more, run-last, run-more, run-none}

lines-append : (xs ys : List ℤ) → print_lines (xs ++ ys) ≡ print_lines xs ++ print_lines ys
lines-append xs ys = map-append (λ z. line (signed_decimal z)) xs ys

module _ {R D K : Type 0} (racks : RackGhosts R) (reach : ModuliSet → ℕ) (gone : Option ℕ) (puts : K → List ℕ → K → Type 0) (state : K → SinkState) where
  came-more : (n : ℕ) (old mid new : MachineState R D) (answer : Stepped) (before between after : K) (e : Ending) → HasStepped racks reach gone racks.IsUnderWay old answer mid → mid.ended ≡ None → WroteAll puts state before (print_lines (prints_by answer)) between → CameOut racks reach gone racks.IsUnderWay puts state n mid between e new after → CameOut racks reach gone racks.IsUnderWay puts state (suc n) old before e new after
  came-more n old mid new answer before between after e h on put rest = record {
    run = run-more racks reach gone racks.IsUnderWay n old mid new answer h on rest.run;
    ending =
        subst (λ (k : RunEnding). IsEnding k e)
        (ap (λ k. ending_of k (trace_from racks reach gone n mid)) h.channels.issued ∙ sym ((joins racks reach gone n old mid answer h on).ending old.channels.issued)) rest.ending;
    prints =
        subst (λ (ls : List (List ℕ)). WroteAll puts state before ls after) (sym (ap print_lines (prints-more racks reach gone n old mid answer h on) ∙ lines-append (prints_by answer) (prints_of (trace_from racks reach gone n mid))))
        (WroteAll-append put rest.prints);
  }

  failed-more : (n k : ℕ) (old mid new : MachineState R D) (answer : Stepped) (before between after : K) → HasStepped racks reach gone racks.IsUnderWay old answer mid → mid.ended ≡ None → WroteAll puts state before (print_lines (prints_by answer)) between → FailedAfter racks reach gone racks.IsUnderWay puts state n k mid between new after → FailedAfter racks reach gone racks.IsUnderWay puts state (suc n) (suc k) old before new after
  failed-more n k old mid new answer before between after h on put rest =
      let whole = prints-more racks reach gone k old mid answer h on in
      let long : length (prints_of (trace_from racks reach gone (suc k) old)) ≡ length (prints_by answer) + length (prints_of (trace_from racks reach gone k mid)) =
      ap length whole ∙ length-append (prints_by answer) (prints_of (trace_from racks reach gone k mid)) in
      let fewer : (j : ℕ) → j < suc k → length (prints_of (trace_from racks reach gone j old)) < length (prints_of (trace_from racks reach gone (suc k) old)) =
      elim [
        | zero ↦ λ less.
            let some = rest.last 0 rest.some in
            omega (arith, long, some)
        | suc j ↦ λ less.
            let part : length (prints_of (trace_from racks reach gone (suc j) old)) ≡ length (prints_by answer) + length (prints_of (trace_from racks reach gone j mid)) =
            ap length (prints-more racks reach gone j old mid answer h on) ∙ length-append (prints_by answer) (prints_of (trace_from racks reach gone j mid)) in
            let below = rest.last j (omega arith) in
            omega (arith, long, part, below)
      ] in
      let limit = rest.limit in
      record {
        some = omega arith;
        limit = omega (arith, limit);
        run = run-more racks reach gone racks.IsUnderWay k old mid new answer h on rest.run;
        goes_on = rest.goes_on;
        last = fewer;
        prints =
            subst (λ (ls : List (List ℕ)). BrokeOff puts state before ls after) (sym (ap print_lines whole ∙ lines-append (prints_by answer) (prints_of (trace_from racks reach gone k mid))))
            (BrokeOff-append put rest.prints);
      }

  -- a run comes out by itself, or the put of a print fails
  RunsOut-by : {After Other : R → List LaneState → List MicroOp → Type 0} {n m : ℕ} {first old mid new : MachineState R D} {begun before after : K} (e : Ending) → (CameOut racks reach gone After puts state n old before e mid after → CameOut racks reach gone Other puts state m first begun e new after) → ((k : ℕ) → FailedAfter racks reach gone After puts state n k old before mid after → (j : ℕ) × FailedAfter racks reach gone Other puts state m j first begun new after) → RunsOut racks reach gone After puts state n old before e mid after → RunsOut racks reach gone Other puts state m first begun e new after
  RunsOut-by ending.Halt came failed h = came h
  RunsOut-by (ending.Trap kind line) came failed h = came h
  RunsOut-by (ending.Damage t column) came failed h = came h
  RunsOut-by ending.Spent came failed h = came h
  RunsOut-by ending.SinkFailed came failed h = failed h.0 h.1

  -- it did by itself
  RunsOut-came : {After : R → List LaneState → List MicroOp → Type 0} {n : ℕ} {old new : MachineState R D} {before after : K} (e : Ending) → CameOut racks reach gone After puts state n old before e new after → RunsOut racks reach gone After puts state n old before e new after
  RunsOut-came ending.Halt h = h
  RunsOut-came (ending.Trap kind line) h = h
  RunsOut-came (ending.Damage t column) h = h
  RunsOut-came ending.Spent h = h
  RunsOut-came ending.SinkFailed h = absurd h.ending

  -- an instruction after which the run goes on, what it prints, and the rest
  pub RunsOut-more : (n : ℕ) (old mid new : MachineState R D) (answer : Stepped) (before between after : K) (e : Ending) → HasStepped racks reach gone racks.IsUnderWay old answer mid → mid.ended ≡ None → WroteAll puts state before (print_lines (prints_by answer)) between → RunsOut racks reach gone racks.IsUnderWay puts state n mid between e new after → RunsOut racks reach gone racks.IsUnderWay puts state (suc n) old before e new after
  RunsOut-more n old mid new answer before between after e h on put rest =
      RunsOut-by e (came-more n old mid new answer before between after e h on put)
      (λ k failed. (suc k, failed-more n k old mid new answer before between after h on put failed)) rest

  -- the put of what an instruction prints failed
  pub put-failed : (n : ℕ) (old mid : MachineState R D) (answer : Stepped) (x : ℤ) (before after : K) → prints_by answer ≡ x ∷ [] → HasStepped racks reach gone racks.IsUnderWay old answer mid → mid.ended ≡ None → BrokeOff puts state before (line (signed_decimal x) ∷ []) after → RunsOut racks reach gone racks.IsUnderWay puts state (suc n) old before ending.SinkFailed mid after
  put-failed n old mid answer x before after one h on put =
      let whole : prints_of (trace_from racks reach gone 1 old) ≡ x ∷ [] = prints-more racks reach gone 0 old mid answer h on ∙ ap (λ xs. xs ++ []) one in
      let long : length (prints_of (trace_from racks reach gone 1 old)) ≡ 1 = ap length whole in
      let fewer : (j : ℕ) → j < 1 → length (prints_of (trace_from racks reach gone j old)) < length (prints_of (trace_from racks reach gone 1 old)) =
      elim [
        | zero ↦ λ less. omega (arith, long)
        | suc j ↦ λ less. absurd (omega arith)
      ] in (
        1,
        record {
          some = omega arith;
          limit = omega arith;
          run = run-more racks reach gone racks.IsUnderWay 0 old mid mid answer h on (run-none racks reach gone mid on);
          goes_on = on;
          last = fewer;
          prints = subst (λ (xs : List ℤ). BrokeOff puts state before (print_lines xs) after) (sym whole) put;
        },
      )

  -- no instruction is left
  pub RunsOut-none : (old : MachineState R D) (before : K) → old.ended ≡ None → RunsOut racks reach gone racks.IsUnderWay puts state 0 old before ending.Spent old before
  RunsOut-none old before on = record { run = run-none racks reach gone old on; ending = refl; prints = WroteAll-none before }

  -- the instruction ends the run
  came-last : (n : ℕ) (old new : MachineState R D) (answer : Stepped) (e : RunEnding) (result : Ending) (before : K) → HasStepped racks reach gone racks.IsUnderWay old answer new → new.ended ≡ Some e → prints_by answer ≡ [] → IsEnding (ending_by answer) result → CameOut racks reach gone racks.IsUnderWay puts state (suc n) old before result new before
  came-last n old new answer e result before h off silent is =
      let same = last_trace racks reach gone n old new answer e h off in
      record {
        run = run-last racks reach gone racks.IsUnderWay n old new answer e h off;
        ending = subst (λ (k : RunEnding). IsEnding k result) (sym (ap (ending_of old.channels.issued) same ∙ h.ending)) is;
        prints = subst (λ (xs : List ℤ). WroteAll puts state before (print_lines xs) before) (sym (ap prints_of same ∙ h.prints ∙ silent)) (WroteAll-none before);
      }

  -- ---- what a run owes, by whether it had ended before
  pub run-fresh : (n : ℕ) (old new : MachineState R D) (before after : K) (e : Ending) → old.ended ≡ None → RunsOut racks reach gone racks.IsUnderWay puts state n old before e new after → IsRun racks reach gone racks.IsUnderWay puts state n old before e new after
  run-fresh n old new before after e fresh h = subst (λ (o : Option RunEnding). RunsOn racks reach gone racks.IsUnderWay puts state o n old before e new after) (sym fresh) h

  -- the run that has come from where it began to an instruction that ends it, with m left, it among them
  pub run-ended : (n m : ℕ) (first old new : MachineState R D) (begun before : K) (answer : Stepped) (e : Ending) → 0 < m → first.ended ≡ None → old.ended ≡ None → IsStep racks reach gone racks.IsUnderWay old answer new → is_spent (ending_by answer) ≡ false → prints_by answer ≡ [] → IsEnding (ending_by answer) e
      → ((e : Ending) (last : MachineState R D) (after : K) → RunsOut racks reach gone racks.IsUnderWay puts state m old before e last after → RunsOut racks reach gone racks.IsUnderWay puts state n first begun e last after)
      → IsRun racks reach gone racks.IsUnderWay puts state n first begun e new before
  run-ended n zero first old new begun before answer e some fresh on step over silent is whole = absurd (omega arith)
  run-ended n (suc m) first old new begun before answer e some fresh on step over silent is whole =
      let h = step-own racks reach gone old new answer on step in
      run-fresh n first new begun before e fresh
      (whole e new before
      (RunsOut-came e (came-last m old new answer (ending_by answer) e before h (is_over racks reach gone old new answer h over) silent is)))

  pub run-again : (n : ℕ) (now old : MachineState R D) (before : K) (e : RunEnding) (result : Ending) → old ≡ now → old.ended ≡ Some e → IsEnding e result → IsRun racks reach gone racks.IsUnderWay puts state n now before result now before
  run-again n now old before e result same is ending =
      subst (λ (m : MachineState R D). IsRun racks reach gone racks.IsUnderWay puts state n m before result m before) same
      (subst (λ (o : Option RunEnding). RunsOn racks reach gone racks.IsUnderWay puts state o n old before result old before) (sym is) (repeated racks old e is, ending, refl))
