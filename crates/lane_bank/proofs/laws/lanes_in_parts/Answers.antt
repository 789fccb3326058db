use Rattle.lane_bank.proofs.BankLemmas.{lanes_after_all-none, lanes_after_all-parts}
use Rattle.lane_bank.proofs.laws.lanes_in_parts.Goals as goal

pub returns-clause-none : goal.returns-clause-none
returns-clause-none c = lanes_after_all-none

pub returns-clause-parts : goal.returns-clause-parts
returns-clause-parts c = lanes_after_all-parts
