use Rattle.lane_bank.proofs.BankLemmas.{lane_at-start, fresh-lanes_at_start}
use Rattle.lane_bank.proofs.laws.lanes_of_new_banks.Goals as goal

pub returns-clause-lane : goal.returns-clause-lane
returns-clause-lane c = lane_at-start

pub returns-clause-fresh : goal.returns-clause-fresh
returns-clause-fresh c = fresh-lanes_at_start
