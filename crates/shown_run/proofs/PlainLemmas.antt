-- Acts that are told the integers which are held are the run of the integer machine.
use Rattle.std.proofs.Common.{◌≡◌, ℕ, ℤ, List, ◌∷◌, refl, ap}
use Rattle.channel_alu.specs.declared.operation.Place.{Place}
use Rattle.channel_lane.specs.Meaning.{integers_after}
use Rattle.machine_table.specs.Control.{halts, traps}
use Rattle.machine_table.specs.Integers.{IntegerRun, prints, printed_by}
use Rattle.micro_plan.specs.ActTree.{Acts, issue, ask, print, go_on, end_by}
use Rattle.micro_plan.specs.Told.{integers_by}
use Rattle.shown_run.specs.Trace.{Trace, did, showed, printed, went_on, ended, damaged, ends_as, prints_of}
use Rattle.shown_run.specs.Runs.{plain}

pub prints-plain : (moduli : List ℕ) (acts : Acts) (at : Place → ℤ) → prints_of (plain moduli acts at) ≡ printed_by (integers_by moduli acts at)
prints-plain moduli (issue op acts) at = prints-plain moduli acts (integers_after moduli op at)
prints-plain moduli (ask place acts) at = prints-plain moduli (acts (at place)) at
prints-plain moduli (print x acts) at = ap (λ xs. x ∷ xs) (prints-plain moduli acts at)
prints-plain moduli (go_on control) at = refl
prints-plain moduli (end_by end) at = refl

-- a print in front changes no ending
ends_as-print : (trace : Trace) (x : ℤ) (run : IntegerRun) → ends_as trace run → ends_as trace (prints x run)
ends_as-print (did op more) x run h = ends_as-print more x run h
ends_as-print (showed place column y more) x run h = ends_as-print more x run h
ends_as-print (printed y more) x run h = ends_as-print more x run h
ends_as-print (went_on control) x run h = h
ends_as-print (ended halts) x run h = h
ends_as-print (ended (traps kind line)) x run h = h
ends_as-print (damaged place column) x run h = h

pub ending-plain : (moduli : List ℕ) (acts : Acts) (at : Place → ℤ) → ends_as (plain moduli acts at) (integers_by moduli acts at)
ending-plain moduli (issue op acts) at = ending-plain moduli acts (integers_after moduli op at)
ending-plain moduli (ask place acts) at = ending-plain moduli (acts (at place)) at
ending-plain moduli (print x acts) at =
    ends_as-print (plain moduli acts at) x (integers_by moduli acts at) (ending-plain moduli acts at)
ending-plain moduli (go_on control) at = refl
ending-plain moduli (end_by halts) at = refl
ending-plain moduli (end_by (traps kind line)) at = refl
