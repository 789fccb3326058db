use Rattle.std.proofs.Common.{◌≡◌, ◌+◌, ◌≤◌, All, ◌++◌, ◌∷◌, [], eqb, length, map, ap, sym, ◌∙◌, subst, arith}
use Rattle.std.specs.List.{list_any}
use Rattle.channel_scheduler.specs.Queues.{AreCounts, queues_of}
use Rattle.channel_scheduler.proofs.QueueLemmas.{kept_each, backlogs-pushed, counts-pushed, queues-pushed, short_each, waiting_most}
use Rattle.channel_scheduler.proofs.queues.Queues.push_in_all.Goals as goal

pub one_more_in_all-requires : goal.one_more_in_all-requires
one_more_in_all-requires c =
    let counts = c.self.invariant.0 in
    short_each c.self.inside.recent.items c.self.inside.backlogs.items counts.recent_in counts.backlogs_in
    (ap (list_any (λ queue. eqb (length queue) 8)) c.self.view_is ∙ c.requires)

pub eights-self-inside-requires : goal.eights-self-inside-requires
eights-self-inside-requires c =
    let inside = c.self.inside in
    let new = c.make_room.new.recent.items in
    let each = kept_each inside.recent.items new inside.backlogs.items inside.waiting inside.full c.args.self.now c.self.view_is c.self.invariant.0 c.requires c.make_room.ensures.kept in
    let within = backlogs-pushed inside.recent.items new c.args.op inside.backlogs.items c.one_more_in_all.new.backlogs.items each c.one_more_in_all.ensures in
    let long : length (new ++ c.args.op ∷ []) ≡ c.len.result = omega (arith, ap length c.push_last.ensures.items, c.len.ensures) in
    subst (λ n. All (λ b. b ≤ n) c.one_more_in_all.new.backlogs.items) long within

pub overflow_add-self : goal.overflow_add-self
overflow_add-self c =
    let counts = c.self.invariant.0 in
    let most = waiting_most c.self.inside.recent.items c.self.inside.backlogs.items c.self.inside.waiting c.self.inside.full counts in
    omega (arith, most, c.len-2.ensures.fits)

pub invariant_of-self : goal.invariant_of-self
invariant_of-self c =
    let inside = c.self.inside in
    let counts = c.self.invariant.0 in
    let new = c.make_room.new.recent.items in
    let after = c.one_more_in_all.new.backlogs.items in
    let each = kept_each inside.recent.items new inside.backlogs.items inside.waiting inside.full c.args.self.now c.self.view_is counts c.requires c.make_room.ensures.kept in
    let pushed = counts-pushed inside.recent.items new c.args.op inside.backlogs.items after inside.waiting inside.full c.eights-self-inside.result counts c.make_room.ensures.room each c.one_more_in_all.ensures c.eights-self-inside.ensures in (
      subst (λ recent. AreCounts recent after (inside.waiting + c.len-2.result) c.eights-self-inside.result) (sym c.push_last.ensures.items)
          (subst (λ n. AreCounts (new ++ c.args.op ∷ []) after (inside.waiting + n) c.eights-self-inside.result) (sym c.len-2.ensures.value) pushed),
      omega (arith, c.self.invariant.1, c.make_room.ensures.capacity, c.push_last.ensures.capacity),
    )

pub returns : goal.returns
returns c =
    let inside = c.self.inside in
    let new = c.make_room.new.recent.items in
    let each = kept_each inside.recent.items new inside.backlogs.items inside.waiting inside.full c.args.self.now c.self.view_is c.self.invariant.0 c.requires c.make_room.ensures.kept in
    ap (λ recent. queues_of recent c.one_more_in_all.new.backlogs.items) c.push_last.ensures.items
    ∙ (ap (queues_of (new ++ c.args.op ∷ [])) c.one_more_in_all.ensures
    ∙ (queues-pushed inside.recent.items new c.args.op inside.backlogs.items each
    ∙ ap (map (λ queue. queue ++ c.args.op ∷ [])) c.self.view_is))
