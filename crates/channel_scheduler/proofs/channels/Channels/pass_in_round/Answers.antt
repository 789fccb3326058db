use Rattle.std.proofs.Common.{◌-◌, ap, sym, ◌∙◌, length, ◌≤◌, subst}
use Rattle.channel_scheduler.specs.Channels.{ChannelState, advanced, performed}
use Rattle.channel_scheduler.proofs.LoopLemmas.{passed_in_round, used_after}
use Rattle.channel_scheduler.proofs.channels.Channels.pass_in_round.Goals as goal

pub advance_in_round-requires : goal.advance_in_round-requires
advance_in_round-requires g c =
    subst (λ (s : ChannelState). length s.schedule ≤ s.used) (sym c.perform_next-2.ensures)
    (used_after c.args.faults.now c.args.self.now (c.perform_next.inside.round - 1) c.requires.rounds)

pub returns : goal.returns
returns g c =
    let round_is = ap (λ (s : ChannelState). performed c.args.faults.now c.args.self.now (s.round - 1)) c.perform_next.view_is in
    c.advance_in_round.ensures
    ∙ (ap advanced (c.perform_next-2.ensures ∙ round_is)
    ∙ passed_in_round c.args.faults.now c.args.self.now c.requires.rounds c.requires.channel)
