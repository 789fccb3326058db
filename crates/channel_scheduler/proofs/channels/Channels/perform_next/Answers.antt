use Rattle.std.proofs.Common.{◌<◌, length, ap, refl, sym, ◌∙◌, subst, arith}
use Rattle.channel_scheduler.specs.Channels.{channel_state, IsKept, performed}
use Rattle.channel_scheduler.proofs.KeepingLemmas.{IsKept-performed}
use Rattle.channel_scheduler.proofs.LoopLemmas.{performed_some, performed_none, not_noted}
use Rattle.channel_scheduler.proofs.channels.Channels.perform_next.Goals as goal

pub returns-then-backlog-eq0 : goal.returns-then-backlog-eq0
returns-then-backlog-eq0 g c =
    let inside = c.self.inside in
    let s = channel_state (g.B.Bank.lanes_of inside.bank) inside.queues inside.column inside.journal inside.schedule inside.used inside.round in
    sym c.self.view_is
    ∙ (performed_none c.args.faults.now s c.args.i (sym c.backlog.ensures ∙ c.if-backlog-eq0.true)
    ∙ ap (λ x. performed c.args.faults.now x c.args.i) c.self.view_is)

pub invariant_of-self : goal.invariant_of-self
invariant_of-self g c =
    let inside = c.self.inside in
    let s = channel_state (g.B.Bank.lanes_of inside.bank) inside.queues inside.column inside.journal inside.schedule inside.used inside.round in
    let lane_in : c.args.i < length s.lanes = omega (arith, ap (λ x. length x.lanes) c.self.view_is) in
    subst IsKept
    (sym (performed_some c.args.faults.now s c.args.i c.first.result.now _ _ _ _ _ _ _ c.first.ensures c.drop_first.ensures c.perform-answer.ensures.lanes c.perform-answer.ensures.answer c.answered-number.ensures c.replace.ensures c.note.ensures))
    (IsKept-performed c.args.faults.now s c.args.i lane_in c.self.invariant)

pub invariant_of-self-else-has_room : goal.invariant_of-self-else-has_room
invariant_of-self-else-has_room g c =
    let inside = c.self.inside in
    let s = channel_state (g.B.Bank.lanes_of inside.bank) inside.queues inside.column inside.journal inside.schedule inside.used inside.round in
    let lane_in : c.args.i < length s.lanes = omega (arith, ap (λ x. length x.lanes) c.self.view_is) in
    subst IsKept
    (sym (performed_some c.args.faults.now s c.args.i c.first-else-has_room.result.now _ _ _ _ _ _ _ c.first-else-has_room.ensures c.drop_first-else-has_room.ensures c.perform-answer-else-has_room.ensures.lanes c.perform-answer-else-has_room.ensures.answer refl c.replace-else-has_room.ensures (not_noted inside.journal _ (sym c.has_room.ensures ∙ c.if-has_room.false))))
    (IsKept-performed c.args.faults.now s c.args.i lane_in c.self.invariant)

pub returns-then-has_room : goal.returns-then-has_room
returns-then-has_room g c =
    let inside = c.self.inside in
    let s = channel_state (g.B.Bank.lanes_of inside.bank) inside.queues inside.column inside.journal inside.schedule inside.used inside.round in
    performed_some c.args.faults.now s c.args.i c.first.result.now _ _ _ _ _ _ _ c.first.ensures c.drop_first.ensures c.perform-answer.ensures.lanes c.perform-answer.ensures.answer c.answered-number.ensures c.replace.ensures c.note.ensures
    ∙ ap (λ x. performed c.args.faults.now x c.args.i) c.self.view_is

pub returns-else-has_room : goal.returns-else-has_room
returns-else-has_room g c =
    let inside = c.self.inside in
    let s = channel_state (g.B.Bank.lanes_of inside.bank) inside.queues inside.column inside.journal inside.schedule inside.used inside.round in
    performed_some c.args.faults.now s c.args.i c.first-else-has_room.result.now _ _ _ _ _ _ _ c.first-else-has_room.ensures c.drop_first-else-has_room.ensures c.perform-answer-else-has_room.ensures.lanes c.perform-answer-else-has_room.ensures.answer refl c.replace-else-has_room.ensures (not_noted inside.journal _ (sym c.has_room.ensures ∙ c.if-has_room.false))
    ∙ ap (λ x. performed c.args.faults.now x c.args.i) c.self.view_is
