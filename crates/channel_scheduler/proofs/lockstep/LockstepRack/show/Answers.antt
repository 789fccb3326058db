use Rattle.channel_alu.specs.declared.operation.MicroOp.TheVariants.{Show}
use Rattle.lane_bank.proofs.BankLemmas.{lanes_after_all-more}
use Rattle.channel_scheduler.proofs.lockstep.LockstepRack.show.Goals as goal

pub returns-clause-run : goal.returns-clause-run
returns-clause-run g c = λ start ops way. lanes_after_all-more c.args.self.now.faults ops (Show c.args.place) start _ _ way c.perform_in_all.ensures.lanes
