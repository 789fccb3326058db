use Rattle.std.proofs.Common.{length, sym, subst}
use Rattle.channel_lane.specs.Meaning.{integers_at_start}
use Rattle.lane_bank.specs.Bank.{lanes_at_start}
use Rattle.machine_table.specs.Control.{control_at_start}
use Rattle.micro_plan.specs.Acts.{acts_of_run}
use Rattle.shown_run.specs.Trace.{Trace}
use Rattle.fault_run.specs.FaultRun.{IsFaultRun, integer_trace}
use Rattle.fault_run.proofs.ByChannel.{IsFaultRun-faulty}
use Rattle.fault_run.proofs.Kept.{faulty_kept}
use Rattle.fault_run.proofs.WholeRuns.{plain_is_undamaged, said_of_run}
use Rattle.fault_run.proofs.laws.shown_runs_are_fault_runs.Goals as goal

pub returns : goal.returns
returns c = λ decode erased set code words input book n stays tells.
    let run = integer_trace set code words input n in
    let lanes = lanes_at_start set 0 words in
    subst (λ (trace : Trace). IsFaultRun decode book lanes run erased set trace)
    (sym (said_of_run decode set code words input book n stays tells _ (faulty_kept decode set (length words) book)))
    (IsFaultRun-faulty decode book erased set run lanes (plain_is_undamaged set.moduli (acts_of_run set code n (control_at_start input)) (integers_at_start words)))
