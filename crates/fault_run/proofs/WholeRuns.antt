-- Runs of whole programs, from their start.
use Rattle.std.proofs.Common.{◌≡◌, ℕ, ℤ, List, length, inr, sym, ap, ◌∙◌, subst}
use Rattle.moduli_sets.specs.Set.{ModuliSet}
use Rattle.channel_alu.specs.declared.operation.Place.{Place}
use Rattle.fault_book.specs.Book.{Book}
use Rattle.channel_lane.specs.Lane.{LaneState}
use Rattle.channel_lane.specs.Meaning.{integers_after, integers_at_start}
use Rattle.lane_bank.specs.Bank.{lanes_at_start}
use Rattle.machine_table.specs.declared.instr.Instr.{Instr}
use Rattle.machine_table.specs.Control.{control_at_start}
use Rattle.machine_table.specs.Integers.{IntegerRun, integer_run, printed_by}
use Rattle.micro_plan.specs.ActTree.{Acts, issue, ask, print, go_on, end_by}
use Rattle.micro_plan.specs.Acts.{acts_of_run}
use Rattle.micro_plan.specs.Told.{StayTrue, integers_by}
use Rattle.micro_plan.proofs.PerformLemmas.{run-can}
use Rattle.micro_plan.proofs.ToldRuns.{AreInRange-start, run-comes}
use Rattle.shown_run.specs.Trace.{Trace, ends_as}
use Rattle.shown_run.specs.Runs.{Decoding, plain, run_shown}
use Rattle.shown_run.proofs.PlainLemmas.{ending-plain, prints-plain}
use Rattle.fault_run.specs.FaultRun.{StaysInRange, integer_trace}
use Rattle.fault_run.specs.Moments.{IsDamaged, RunsUpToDamage}
use Rattle.fault_run.specs.Telling.{TellsEach, TellsNoOther}
use Rattle.fault_run.proofs.RightLanes.{AreRightLanes-start}
use Rattle.fault_run.proofs.ShownRuns.{IsKept, Saying, said}
use Rattle.fault_run.proofs.Kept.{IsFrontOf, fronts_kept}

pub plain_is_undamaged : (moduli : List ℕ) (acts : Acts) (at : Place → ℤ) → ¬ IsDamaged (plain moduli acts at)
plain_is_undamaged moduli (issue op acts) at h = plain_is_undamaged moduli acts (integers_after moduli op at) h
plain_is_undamaged moduli (ask place acts) at h = plain_is_undamaged moduli (acts (at place)) at h
plain_is_undamaged moduli (print x acts) at h = plain_is_undamaged moduli acts at h
plain_is_undamaged moduli (go_on control) at h = h
plain_is_undamaged moduli (end_by end) at h = h

module _ (decode : Decoding) (set : ModuliSet) (code : List Instr) (words input : List ℤ) (book : Book) (n : ℕ)
    (stays : StaysInRange set code words input n) where
  abbrev acts : Acts
  acts = acts_of_run set code n (control_at_start input)

  abbrev start : List LaneState
  start = lanes_at_start set 0 words

  abbrev trace : Trace
  trace = run_shown decode book set code n (control_at_start input) start

  comes : (integers_by set.moduli acts (integers_at_start words) ≡ integer_run set code words n input) × StayTrue set acts (integers_at_start words)
  comes = run-comes set code words n stays.rules stays.sound (control_at_start input) (integers_at_start words) (AreInRange-start set words stays.sound.in_range) stays.fit

  -- what is kept is said of the run
  pub said_of_run : TellsNoOther decode set book → (Said : Saying) → IsKept decode set (length words) book Said → Said acts (integers_at_start words) start trace
  said_of_run tells Said kept =
      said decode set (length words) book stays.rules tells Said kept acts (integers_at_start words) start (AreRightLanes-start set book words stays.rules)
      (run-can set code words n (control_at_start input) stays.rules stays.sound) comes.1 (AreInRange-start set words stays.sound.in_range)

  pub up_to_damage : TellsNoOther decode set book → RunsUpToDamage trace (integer_run set code words n input)
  up_to_damage tells =
      let h : IsFrontOf (integer_trace set code words input n) trace = said_of_run tells _ (fronts_kept decode set (length words) book) in
      let printed = prints-plain set.moduli acts (integers_at_start words) ∙ ap printed_by comes.0 in
      record {
        unprinted = h.unprinted;
        front = sym printed ∙ h.front;
        whole = λ undamaged. record {
          prints = h.prints undamaged ∙ printed;
          ending = h.ending undamaged (integer_run set code words n input)
              (subst (λ (r : IntegerRun). ends_as (plain set.moduli acts (integers_at_start words)) r) comes.0 (ending-plain set.moduli acts (integers_at_start words)));
        };
      }

-- a decoder that tells each integer tells no other
pub no_other : (decode : Decoding) (set : ModuliSet) (book : Book) → TellsEach decode set book → TellsNoOther decode set book
no_other decode set book each column x is = inr (each column x is)
