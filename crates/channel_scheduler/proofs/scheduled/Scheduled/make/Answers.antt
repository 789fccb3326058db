use Rattle.std.proofs.Common.{[], sym, ap, ◌∙◌, subst}
use Rattle.channel_scheduler.specs.Channels.{caught_up, is_behind}
use Rattle.channel_scheduler.specs.Moments.{IsUnderWay}
use Rattle.channel_scheduler.proofs.RunLemmas.{start_lanes, start_behind, start_way}
use Rattle.channel_scheduler.proofs.scheduled.Scheduled.make.Goals as goal

pub returns-clause-lanes : goal.returns-clause-lanes
returns-clause-lanes g c =
    let lanes = g.B.Bank.lanes_of c.args.bank in
    ap (λ s. caught_up c.args.faults s.lanes s.queues) c.in_ok-make.ensures ∙ start_lanes c.args.faults lanes c.args.schedule c.args.keep

pub returns-clause-settled : goal.returns-clause-settled
returns-clause-settled g c =
    let lanes = g.B.Bank.lanes_of c.args.bank in
    ap is_behind c.in_ok-make.ensures ∙ start_behind lanes c.args.schedule c.args.keep

pub returns-clause-under_way : goal.returns-clause-under_way
returns-clause-under_way g c =
    let lanes = g.B.Bank.lanes_of c.args.bank in
    subst (λ s. IsUnderWay c.args.faults s lanes []) (sym c.in_ok-make.ensures) (start_way c.args.faults lanes c.args.schedule c.args.keep c.requires.fresh c.requires.turns)
