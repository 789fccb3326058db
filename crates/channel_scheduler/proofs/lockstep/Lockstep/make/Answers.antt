use Rattle.std.proofs.Common.{sym}
use Rattle.lane_bank.proofs.BankLemmas.{lanes_after_all-none}
use Rattle.channel_scheduler.proofs.lockstep.Lockstep.make.Goals as goal

pub returns-clause-under_way : goal.returns-clause-under_way
returns-clause-under_way g c = sym (lanes_after_all-none c.args.faults (g.B.Bank.lanes_of c.args.bank))
