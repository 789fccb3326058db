-- The acts of a run come to the integer run.
use Rattle.std.proofs.Common.{ℕ, zero, suc, List, [], length, slice_index_or, All, refl, sym, ap, subst, arith, inl, inr, ℤ, pos}
use Rattle.std.proofs.lemmas.Bool.{cases_lt}
use Rattle.std.proofs.lemmas.List.{get_or_past}
use Rattle.std.proofs.lemmas.List.Elements.{All-get_or, All-from_recursion}
use Rattle.moduli_sets.specs.Set.{ModuliSet, IsModuliSet, IsInRange}
use Rattle.channel_alu.specs.declared.operation.Place.{Place}
use Rattle.channel_alu.specs.declared.operation.Place.TheVariants.{Reg, Scratch, Word}
use Rattle.channel_lane.specs.Meaning.{integers_after, integers_at_start}
use Rattle.machine_table.specs.declared.instr.Instr.{Instr}
use Rattle.machine_table.specs.declared.instr.Instr.TheVariants.{Halt}
use Rattle.machine_table.specs.Control.{Control}
use Rattle.machine_table.specs.Faults.{IsSound, shape_of}
use Rattle.machine_table.specs.Integers.{Memory, IntegerRun, prints, stands, stops, unfit, step, instruction_at, then_run, run_from, IsFit}
use Rattle.machine_table.specs.Operands.{Shape, IsSoundOperand, operands_of}
use Rattle.micro_plan.specs.ActTree.{Acts, issue, ask, print, go_on, end_by, then_acts}
use Rattle.micro_plan.specs.Acts.{acts_of, acts_of_run}
use Rattle.micro_plan.specs.Told.{memory_of, integers_by, AreInRange, StayTrue}
use Rattle.micro_plan.proofs.ToldLemmas.{ComesTo, issued, IsInRange-natural}
use Rattle.micro_plan.proofs.ToldInstructions.{step-comes}

-- ---- acts, and then others
-- the acts that follow come to the runs that follow, from wherever control goes on
abbrev pub FollowsTo : ModuliSet → (Control → Acts) → (Control → Memory → IntegerRun) → Type 0
FollowsTo set acts run = (control : Control) (at : Place → ℤ) → AreInRange set at → IsFit (run control (memory_of at)) → ComesTo set (acts control) at (run control (memory_of at))

pub then-comes : (set : ModuliSet) (acts : Acts) (at : Place → ℤ) (more : Control → Acts) (run : Control → Memory → IntegerRun) → FollowsTo set more run → AreInRange set at → StayTrue set acts at
    → IsFit (then_run (integers_by set.moduli acts at) run) → ComesTo set (then_acts acts more) at (then_run (integers_by set.moduli acts at) run)
then-comes set (issue op acts) at more run follow fits stay fit =
    issued stay.0 stay.1 (then-comes set acts (integers_after set.moduli op at) more run follow stay.1 stay.2 fit)
then-comes set (ask place acts) at more run follow fits stay fit = then-comes set (acts (at place)) at more run follow fits stay fit
then-comes set (print x acts) at more run follow fits stay fit =
    let m = then-comes set acts at more run follow fits stay fit in
    (ap (prints x) m.0, m.1)
then-comes set (go_on control) at more run follow fits stay fit = follow control at fits fit
then-comes set (end_by end) at more run follow fits stay fit = (refl, tt)

IsFit-first : (run : IntegerRun) (more : Control → Memory → IntegerRun) → IsFit (then_run run more) → IsFit run
IsFit-first (prints x run) more fit = IsFit-first run more fit
IsFit-first (stands control memory) more fit = tt
IsFit-first (stops end) more fit = tt
IsFit-first unfit more fit = fit

-- ---- runs
pub sound_at : (shape : Shape) (code : List Instr) (place : ℕ) → All (λ instr. All (IsSoundOperand shape) (operands_of instr)) code → All (IsSoundOperand shape) (operands_of (instruction_at code place))
sound_at shape code place h =
    elim (cases_lt place (length code)) [
      | inl within ↦ All-get_or (λ instr. All (IsSoundOperand shape) (operands_of instr)) code place Halt within h
      | inr past ↦
          subst (λ instr. All (IsSoundOperand shape) (operands_of instr)) (sym (get_or_past code place Halt past))
          (All-from_recursion (IsSoundOperand shape) [] tt)
    ]

run_by : (shape : Shape) (code : List Instr) (n : ℕ) → IsModuliSet shape.set → All (λ instr. All (IsSoundOperand shape) (operands_of instr)) code → FollowsTo shape.set (acts_of_run shape.set code n) (run_from shape.set code n)
run_by shape code zero rules sound control at fits fit = (refl, tt)
run_by shape code (suc n) rules sound control at fits fit =
    let instr = instruction_at code control.counter in
    let acts = acts_of shape.set instr control in
    let more = acts_of_run shape.set code n in
    let run = run_from shape.set code n in
    let first = step shape.set instr control (memory_of at) in
    let m = step-comes shape instr control at rules (sound_at shape code control.counter sound) fits (IsFit-first first run fit) in
    subst (λ r. IsFit (then_run r run) → ComesTo shape.set (then_acts acts more) at (then_run r run)) m.0
    (then-comes shape.set acts at more run (run_by shape code n rules sound) fits m.1) fit

pub run-comes : (set : ModuliSet) (code : List Instr) (words : List ℤ) (n : ℕ) → IsModuliSet set → IsSound set code words → FollowsTo set (acts_of_run set code n) (run_from set code n)
run-comes set code words n rules sound = run_by (shape_of set code words) code n rules sound.operands

-- ---- the start
zero_in_range : (set : ModuliSet) → IsInRange set (pos 0)
zero_in_range set = IsInRange-natural set (pos 0) 0 refl (omega arith)

word_in_range : (set : ModuliSet) (words : List ℤ) (p : ℕ) → All (IsInRange set) words → IsInRange set (slice_index_or words p (pos 0))
word_in_range set words p h =
    elim (cases_lt p (length words)) [
      | inl within ↦ All-get_or (IsInRange set) words p (pos 0) within h
      | inr past ↦ subst (IsInRange set) (sym (get_or_past words p (pos 0) past)) (zero_in_range set)
    ]

pub AreInRange-start : (set : ModuliSet) (words : List ℤ) → All (IsInRange set) words → AreInRange set (integers_at_start words)
AreInRange-start set words h (Reg a) = zero_in_range set
AreInRange-start set words h (Scratch s) = zero_in_range set
AreInRange-start set words h (Word p) = word_in_range set words p h
