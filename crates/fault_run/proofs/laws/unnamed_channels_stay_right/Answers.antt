use Rattle.std.proofs.Common.{length}
use Rattle.lane_bank.specs.Bank.{lanes_at_start}
use Rattle.machine_table.specs.Control.{control_at_start}
use Rattle.shown_run.specs.Runs.{run_shown}
use Rattle.fault_run.proofs.Kept.{holds_kept, shows_kept, uncorrected}
use Rattle.fault_run.proofs.WholeRuns.{said_of_run}
use Rattle.fault_run.proofs.laws.unnamed_channels_stay_right.Goals as goal

pub returns-clause-hold : goal.returns-clause-hold
returns-clause-hold c = λ decode set code words input book n stays tells.
    said_of_run decode set code words input book n stays tells _ (holds_kept decode set (length words) book)

pub returns-clause-shown : goal.returns-clause-shown
returns-clause-shown c = λ decode set code words input book n stays tells.
    said_of_run decode set code words input book n stays tells _ (shows_kept decode set (length words) book)

pub returns-clause-corrections : goal.returns-clause-corrections
returns-clause-corrections c = λ decode erased set code words input book n channel stays tells unnamed.
    uncorrected erased set book channel unnamed (run_shown decode book set code n (control_at_start input) (lanes_at_start set 0 words))
    (said_of_run decode set code words input book n stays tells _ (shows_kept decode set (length words) book))
