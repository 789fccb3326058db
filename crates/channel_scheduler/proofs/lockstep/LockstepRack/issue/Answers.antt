use Rattle.lane_bank.proofs.BankLemmas.{lanes_after_all-more}
use Rattle.channel_scheduler.proofs.lockstep.LockstepRack.issue.Goals as goal

pub returns-clause-run : goal.returns-clause-run
returns-clause-run g c = λ start ops way. lanes_after_all-more c.args.self.now.faults ops c.args.op start _ _ way c.issue_to_all.ensures
