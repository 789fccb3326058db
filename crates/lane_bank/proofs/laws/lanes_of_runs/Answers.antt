use Rattle.lane_bank.proofs.BankLemmas.{CanPerform-lanes, AreResidues-column, answers-lanes}
use Rattle.lane_bank.proofs.laws.lanes_of_runs.Goals as goal

pub returns-clause-can : goal.returns-clause-can
returns-clause-can c = CanPerform-lanes

pub returns-clause-column : goal.returns-clause-column
returns-clause-column c = AreResidues-column

pub returns-clause-answers : goal.returns-clause-answers
returns-clause-answers c = answers-lanes
