use Rattle.std.proofs.Common.{List, sym, ap, ◌∙◌, subst}
use Rattle.channel_lane.specs.Lane.{LaneState}
use Rattle.lane_bank.specs.Bank.{AllHavePlace, stored_in}
use Rattle.channel_scheduler.proofs.CatchingLemmas.{caught_up-settled}
use Rattle.channel_scheduler.proofs.scheduled.ScheduledRack.peek.Goals as goal

pub stored_in_all-requires : goal.stored_in_all-requires
stored_in_all-requires g c =
    let channels = c.args.self.now.channels in
    let same = caught_up-settled c.args.self.now.faults channels.lanes channels.queues c.requires.settled in
    subst (λ (lanes : List LaneState). AllHavePlace lanes c.args.place) (same ∙ sym c.bank.ensures) c.requires.place

pub returns : goal.returns
returns g c =
    let channels = c.args.self.now.channels in
    let same = caught_up-settled c.args.self.now.faults channels.lanes channels.queues c.requires.settled in
    c.stored_in_all.ensures ∙ ap (stored_in c.args.place) (c.bank.ensures ∙ sym same)
