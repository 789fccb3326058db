-- One instruction of a machine, by what the channels say of it.
use Rattle.std.proofs.Common.{◌≡◌, ℕ, Bool, true, false, cond, ◌+◌, List, [], Option, None, Some, refl, sym, ap, ◌∙◌, subst}
use Rattle.moduli_sets.specs.Set.{ModuliSet}
use Rattle.channel_alu.specs.declared.operation.MicroOp.{MicroOp}
use Rattle.channel_lane.specs.Lane.{LaneState}
use Rattle.machine_table.specs.Control.{Control, halts, traps}
use Rattle.channel_scheduler.specs.declared.rack.Rack.{Ghosts as RackGhosts}
use Rattle.shown_run.specs.Trace.{Trace, did, showed, printed, went_on, ended, damaged, RunEnding, halt, trap, damage, spent, ending_of, where_went_on}
use Rattle.residue_machine.specs.declared.ending.Stepped.{Stepped}
use Rattle.residue_machine.specs.declared.outcome.Outcome.{Outcome}
use Rattle.residue_machine.specs.Bench.{Bench}
use Rattle.residue_machine.specs.Machine.{MachineState, HasRepeated, HasStepped, IsStep, StepsOn, ending_by, prints_by, trace_of_step}
use Rattle.residue_machine.specs.Outcomes.{Came, control_by}
use Rattle.residue_machine.specs.Outcomes as outcomes
use Rattle.residue_machine.proofs.BenchLemmas.{Performed-none}
use Rattle.residue_machine.proofs.TraceLemmas.{said_of, said_of_none}

-- ---- endings
abbrev pub is_spent : RunEnding → Bool
is_spent halt = false
is_spent (trap kind line) = false
is_spent (damage t column) = false
is_spent spent = true

-- a trace goes on where its run is spent, and else it ends the run
ends_unless_spent : (t : Trace) (n : ℕ) (e : RunEnding) → where_went_on t (λ control. None) (Some e) ≡ cond (is_spent (ending_of n t)) None (Some e)
ends_unless_spent (did op more) n e = ends_unless_spent more (n + 1) e
ends_unless_spent (showed place column x more) n e = ends_unless_spent more (n + 1) e
ends_unless_spent (printed x more) n e = ends_unless_spent more n e
ends_unless_spent (went_on control) n e = refl
ends_unless_spent (ended halts) n e = refl
ends_unless_spent (ended (traps kind line)) n e = refl
ends_unless_spent (damaged place column) n e = refl

module _ {R D : Type 0} (racks : RackGhosts R) where
  -- after an ending nothing changes
  pub repeated : (m : MachineState R D) (e : RunEnding) → m.ended ≡ Some e → HasRepeated racks racks.IsUnderWay e m m
  repeated m e is = record { channels = Performed-none racks m.channels; control = refl; taken = refl; ended = is }

module _ {R D : Type 0} (racks : RackGhosts R) (reach : ModuliSet → ℕ) (gone : Option ℕ) where
  -- the run goes on
  stepped-on : (old : MachineState R D) (between after : Control) (channels : Bench R D) (outcome : Outcome) (answer : Stepped) (over : Option RunEnding) → over ≡ None → Came racks reach gone (trace_of_step racks reach gone old) old.channels.issued between old.channels outcome channels → control_by outcome between ≡ Some after → outcomes.prints_by outcome ≡ prints_by answer → outcomes.ending_by outcome ≡ ending_by answer → HasStepped racks reach gone racks.IsUnderWay old answer (record { channels = channels; control = after; taken = old.taken + 1; ended = over })
  stepped-on old between after channels outcome answer over none came on prints ending =
      let t = trace_of_step racks reach gone old in
      record {
        channels = came.channels;
        control = sym (said_of t after (λ control. control) old.control (came.control_is ∙ on));
        taken = refl;
        ended = none ∙ sym (said_of t after (λ control. None) (Some (ending_of old.channels.issued t)) (came.control_is ∙ on));
        prints = came.prints ∙ prints;
        ending = came.ending ∙ ending;
      }

  -- the instruction ends it, and control stays
  pub stepped-off : (old : MachineState R D) (between : Control) (channels : Bench R D) (outcome : Outcome) (answer : Stepped) (over : Option RunEnding) → over ≡ Some (ending_by answer) → Came racks reach gone (trace_of_step racks reach gone old) old.channels.issued between old.channels outcome channels → control_by outcome between ≡ None → between ≡ old.control → outcomes.prints_by outcome ≡ prints_by answer → outcomes.ending_by outcome ≡ ending_by answer → HasStepped racks reach gone racks.IsUnderWay old answer (record { channels = channels; control = between; taken = old.taken + 1; ended = over })
  stepped-off old between channels outcome answer over some came off stays prints ending =
      let t = trace_of_step racks reach gone old in
      record {
        channels = came.channels;
        control = stays ∙ sym (said_of_none t (λ control. control) old.control (came.control_is ∙ off));
        taken = refl;
        ended = some ∙ sym (said_of_none t (λ control. None) (Some (ending_of old.channels.issued t)) (came.control_is ∙ off) ∙ ap Some (came.ending ∙ ending));
        prints = came.prints ∙ prints;
        ending = came.ending ∙ ending;
      }

  -- where the run hadn't ended
  pub step-fresh : {After : R → List LaneState → List MicroOp → Type 0} (now old new : MachineState R D) (answer : Stepped) → old ≡ now → old.ended ≡ None → HasStepped racks reach gone After old answer new → IsStep racks reach gone After now answer new
  step-fresh {After} now old new answer same on h =
      subst (λ (m : MachineState R D). IsStep racks reach gone After m answer new) same
      (subst (λ (o : Option RunEnding). StepsOn racks reach gone After o old answer new) (sym on) h)

  pub step-on : (now old : MachineState R D) (between after : Control) (channels : Bench R D) (outcome : Outcome) (answer : Stepped) → old ≡ now → old.ended ≡ None → Came racks reach gone (trace_of_step racks reach gone old) old.channels.issued between old.channels outcome channels → control_by outcome between ≡ Some after → outcomes.prints_by outcome ≡ prints_by answer → outcomes.ending_by outcome ≡ ending_by answer → IsStep racks reach gone racks.IsUnderWay now answer (record { channels = channels; control = after; taken = old.taken + 1; ended = old.ended })
  step-on now old between after channels outcome answer same fresh came on prints ending =
      step-fresh now old _ answer same fresh (stepped-on old between after channels outcome answer old.ended fresh came on prints ending)

  pub step-own : {After : R → List LaneState → List MicroOp → Type 0} (old new : MachineState R D) (answer : Stepped) → old.ended ≡ None → IsStep racks reach gone After old answer new → HasStepped racks reach gone After old answer new
  step-own {After} old new answer on h = subst (λ (o : Option RunEnding). StepsOn racks reach gone After o old answer new) on h

  -- after an ending
  pub step-again : (now old : MachineState R D) (answer : Stepped) (e : RunEnding) → old ≡ now → old.ended ≡ Some e → ending_by answer ≡ e → prints_by answer ≡ [] → IsStep racks reach gone racks.IsUnderWay now answer now
  step-again now old answer e same is ending prints =
      subst (λ (m : MachineState R D). IsStep racks reach gone racks.IsUnderWay m answer m) same
      (subst (λ (o : Option RunEnding). StepsOn racks reach gone racks.IsUnderWay o old answer old) (sym is) (repeated racks old e is, ending, prints))

  -- by the answer
  ended_by : {After : R → List LaneState → List MicroOp → Type 0} (old new : MachineState R D) (answer : Stepped) → HasStepped racks reach gone After old answer new → new.ended ≡ cond (is_spent (ending_by answer)) None (Some (ending_by answer))
  ended_by old new answer h =
      let t = trace_of_step racks reach gone old in
      h.ended ∙ ends_unless_spent t old.channels.issued (ending_of old.channels.issued t) ∙ ap (λ k. cond (is_spent k) None (Some k)) h.ending

  -- the run goes on
  pub still_on : {After : R → List LaneState → List MicroOp → Type 0} (old new : MachineState R D) (answer : Stepped) → HasStepped racks reach gone After old answer new → ending_by answer ≡ spent → new.ended ≡ None
  still_on old new answer h e = ended_by old new answer h ∙ ap (λ k. cond (is_spent k) None (Some k)) e

  -- or it has ended
  pub is_over : {After : R → List LaneState → List MicroOp → Type 0} (old new : MachineState R D) (answer : Stepped) → HasStepped racks reach gone After old answer new → is_spent (ending_by answer) ≡ false → new.ended ≡ Some (ending_by answer)
  is_over old new answer h e = ended_by old new answer h ∙ ap (λ b. cond b None (Some (ending_by answer))) e
