use Rattle.std.proofs.Common.{not, ltb, eqb, length, ap, ◌∙◌}
use Rattle.std.specs.List.{list_any}
use Rattle.channel_scheduler.proofs.QueueLemmas.{behind-is}
use Rattle.channel_scheduler.proofs.queues.Queues.is_behind.Goals as goal

pub returns : goal.returns
returns c =
    let counts = c.self.invariant.0 in
    ap (ltb 0) counts.waiting_is
    ∙ (behind-is c.self.inside.recent.items c.self.inside.backlogs.items counts.backlogs_in
    ∙ ap (list_any (λ queue. not (eqb (length queue) 0))) c.self.view_is)
