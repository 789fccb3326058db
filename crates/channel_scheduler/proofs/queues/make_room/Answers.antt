use Rattle.channel_scheduler.proofs.QueueLemmas.{kept-without-first}
use Rattle.std.proofs.Common.{arith}
use Rattle.channel_scheduler.proofs.queues.make_room.Goals as goal

pub returns-then-len-eq-MOST-clause-kept : goal.returns-then-len-eq-MOST-clause-kept
returns-then-len-eq-MOST-clause-kept c = λ backlog within short some.
    kept-without-first c.args.recent.now.items c.remove.new.self.items backlog c.remove.ensures.items (omega (arith, c.if-len-eq-MOST.true, c.len.ensures))
