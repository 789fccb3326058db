use Rattle.std.proofs.Common.{length}
use Rattle.fault_run.proofs.Kept.{fronts_kept, undamaged_kept}
use Rattle.fault_run.proofs.WholeRuns.{no_other, said_of_run, up_to_damage}
use Rattle.fault_run.proofs.laws.few_faults_change_nothing.Goals as goal

pub returns-clause-run : goal.returns-clause-run
returns-clause-run c = λ decode set code words input book n stays each.
    let tells = no_other decode set book each in
    (up_to_damage decode set code words input book n stays tells).whole
    (said_of_run decode set code words input book n stays tells _ (undamaged_kept decode set (length words) book each))

pub returns-clause-operations : goal.returns-clause-operations
returns-clause-operations c = λ decode set code words input book n stays each.
    let tells = no_other decode set book each in
    (said_of_run decode set code words input book n stays tells _ (fronts_kept decode set (length words) book)).operations
    (said_of_run decode set code words input book n stays tells _ (undamaged_kept decode set (length words) book each))
