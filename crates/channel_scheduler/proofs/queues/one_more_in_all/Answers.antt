use Rattle.std.proofs.Common.{◌≡◌, ◌+◌, ◌<◌, length, get_or, ap, ◌∙◌, arith}
use Rattle.std.proofs.Math.ListN.{set}
use Rattle.lane_bank.proofs.BankLemmas.{mapped_more}
use Rattle.channel_scheduler.proofs.queues.one_more_in_all.Goals as goal

pub loop-i-preserved : goal.loop-i-preserved
loop-i-preserved c =
    let old = c.args.backlogs.now.items in
    let i = c.loop-i.i in
    let within : i < length old = omega (arith, c.len-i-end.ensures.value, c.loop-i-test.true) in
    let read : get_or c.deref.result.now i 0 ≡ get_or c.loop-i.backlogs.items i 0 = ap (λ xs. get_or xs i 0) c.deref.ensures.0 in
    mapped_more (λ backlog. backlog + 1) old c.loop-i.backlogs.items c.put.new.backlogs.items i 0 within c.loop-i.invariant (c.put.ensures ∙ ap (λ backlog. set c.loop-i.backlogs.items i (backlog + 1)) read)
