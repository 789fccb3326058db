use Rattle.std.proofs.Common.{ltb, eqb, length, ap, ◌∙◌}
use Rattle.std.specs.List.{list_any}
use Rattle.channel_scheduler.proofs.QueueLemmas.{blocked-is}
use Rattle.channel_scheduler.proofs.queues.Queues.is_blocked.Goals as goal

pub returns : goal.returns
returns c =
    let counts = c.self.invariant.0 in
    ap (ltb 0) counts.full_is
    ∙ (blocked-is c.self.inside.recent.items c.self.inside.backlogs.items counts.backlogs_in
    ∙ ap (list_any (λ queue. eqb (length queue) 8)) c.self.view_is)
