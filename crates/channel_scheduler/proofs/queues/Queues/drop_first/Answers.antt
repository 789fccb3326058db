use Rattle.std.proofs.Common.{◌-◌, eq-eqb, get_or, ap, subst, arith}
use Rattle.std.specs.Int.{from_bool}
use Rattle.std.proofs.lemmas.Bool.{ne_eqb}
use Rattle.channel_scheduler.specs.Queues.{AreCounts}
use Rattle.channel_scheduler.proofs.QueueLemmas.{dropped}
use Rattle.channel_scheduler.proofs.queues.Queues.drop_first.Goals as goal

pub invariant_of-self : goal.invariant_of-self
invariant_of-self c =
    let inside = c.self.inside in
    let is = ap (λ xs. get_or xs c.args.i 0) c.deref.ensures.0 in
    let d = dropped inside.recent.items inside.backlogs.items _ c.args.i _ inside.waiting inside.full c.args.self.now c.self.view_is c.self.invariant.0 c.requires.channel c.requires.waits is c.put.ensures in (
      subst (λ test. AreCounts inside.recent.items c.put.new.backlogs.items (inside.waiting - 1) (inside.full - from_bool test)) (eq-eqb _ _ c.if-backlog-eq-MOST.true) d.counts,
      c.self.invariant.1,
    )

pub invariant_of-self-else-backlog-eq-MOST : goal.invariant_of-self-else-backlog-eq-MOST
invariant_of-self-else-backlog-eq-MOST c =
    let inside = c.self.inside in
    let is = ap (λ xs. get_or xs c.args.i 0) c.deref.ensures.0 in
    let d = dropped inside.recent.items inside.backlogs.items _ c.args.i _ inside.waiting inside.full c.args.self.now c.self.view_is c.self.invariant.0 c.requires.channel c.requires.waits is c.put.ensures in (
      subst (AreCounts inside.recent.items c.put.new.backlogs.items (inside.waiting - 1)) (omega arith)
          (subst (λ test. AreCounts inside.recent.items c.put.new.backlogs.items (inside.waiting - 1) (inside.full - from_bool test)) (ne_eqb _ _ c.if-backlog-eq-MOST.false) d.counts),
      c.self.invariant.1,
    )

pub returns-then-backlog-eq-MOST : goal.returns-then-backlog-eq-MOST
returns-then-backlog-eq-MOST c =
    let inside = c.self.inside in
    let is = ap (λ xs. get_or xs c.args.i 0) c.deref.ensures.0 in
    (dropped inside.recent.items inside.backlogs.items _ c.args.i _ inside.waiting inside.full c.args.self.now c.self.view_is c.self.invariant.0 c.requires.channel c.requires.waits is c.put.ensures).queues_are

pub returns-else-backlog-eq-MOST : goal.returns-else-backlog-eq-MOST
returns-else-backlog-eq-MOST c =
    let inside = c.self.inside in
    let is = ap (λ xs. get_or xs c.args.i 0) c.deref.ensures.0 in
    (dropped inside.recent.items inside.backlogs.items _ c.args.i _ inside.waiting inside.full c.args.self.now c.self.view_is c.self.invariant.0 c.requires.channel c.requires.waits is c.put.ensures).queues_are
