use Rattle.std.proofs.Common.{◌≡◌, ◌+◌, ◌<◌, ◌^◌, ℕ, false, length, sym, subst}
use Rattle.lane_bank.specs.Bank.{lane_at}
use Rattle.channel_scheduler.specs.Channels.{channel_state, IsAble, IsKept, is_blocked, queue_at}
use Rattle.channel_scheduler.proofs.KeepingLemmas.{IsKept-pushed}
use Rattle.channel_scheduler.proofs.channels.Channels.issue.Goals as goal

pub invariant_of-self : goal.invariant_of-self
invariant_of-self g c =
    let inside = c.self.inside in
    let s = channel_state (g.B.Bank.lanes_of inside.bank) inside.queues inside.column inside.journal inside.schedule inside.used inside.round in
    let back = sym c.self.view_is in
    subst (λ queues. IsKept (record s { queues = queues })) (sym c.push_in_all.ensures)
    (IsKept-pushed c.args.op s
    (subst (λ x. is_blocked x ≡ false) back c.requires.room)
    (subst (λ x. (i : ℕ) → i < length x.lanes → IsAble (lane_at x.lanes i) c.args.op) back c.requires.can)
    (subst (λ x. (i : ℕ) → i < length x.lanes → (lane_at x.lanes i).answers + length (queue_at x.queues i) < 10 ^ 18) back c.requires.few)
    c.self.invariant)
