use Rattle.std.proofs.Common.{◌<◌, ◌≤◌, eqb, length, get_or, sym, ap, arith}
use Rattle.std.specs.Int.{from_bool}
use Rattle.std.proofs.lemmas.List.Elements.{All-weaker}
use Rattle.channel_scheduler.proofs.QueueLemmas.{is_eight, count-more, no_eights, one_at_most}
use Rattle.channel_scheduler.proofs.queues.eights.Goals as goal

pub returns-then-most-lt-MOST : goal.returns-then-most-lt-MOST
returns-then-most-lt-MOST c =
    sym (no_eights c.args.backlogs.now.items (All-weaker (λ b. b ≤ c.args.most) (λ b. b < 8) (λ b h. omega (arith, c.if-most-lt-MOST.true)) c.args.backlogs.now.items c.requires))

pub loop-i-preserved : goal.loop-i-preserved
loop-i-preserved c =
    let items = c.args.backlogs.now.items in
    let i = c.loop-i.i in
    let within : i < length items = omega (arith, c.len-i-end.ensures.value, c.loop-i-test.true) in
    let eight = ap (λ xs. from_bool (eqb (get_or xs i 0) 8)) c.deref.ensures.0 in
    record {
      full = omega (arith, c.loop-i.invariant.full, c.from-full.ensures, eight, count-more is_eight items i within);
      few = omega (arith, c.loop-i.invariant.few, c.from-full.ensures, one_at_most (eqb (get_or c.deref.result.now i 0) 8));
    }
