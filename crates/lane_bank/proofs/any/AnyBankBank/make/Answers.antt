use Rattle.std.proofs.Common.{length, ap, ◌∙◌, arith}
use Rattle.moduli_sets.specs.Moduli.{set_of}
use Rattle.lane_bank.proofs.BankLemmas.{length-lanes_at_start, new_lane_more, new_lanes}
use Rattle.lane_bank.proofs.any.AnyBankBank.make.Goals as goal

pub loop-channel-preserved : goal.loop-channel-preserved
loop-channel-preserved c =
    let loop = c.loop-channel in
    record {
      lanes = new_lane_more (set_of c.args.set.now) c.args.start.now c.args.first loop.channel _ _ _ (omega arith) loop.invariant.lanes
          c.in_ok-push.ensures.items c.in_ok-make.ensures;
      within = omega arith;
    }

pub invariant_of-result : goal.invariant_of-result
invariant_of-result c =
    let set = set_of c.args.set.now in
    let all = c.loop-channel.invariant.lanes ∙ new_lanes set c.args.start.now c.args.first c.loop-channel.channel (omega arith) in
    record { few = omega (arith, ap length all, length-lanes_at_start set c.args.first c.args.start.now, c.rules.ensures.set.at_most_twelve) }

pub returns : goal.returns
returns c =
    c.loop-channel.invariant.lanes ∙ new_lanes (set_of c.args.set.now) c.args.start.now c.args.first c.loop-channel.channel (omega arith)
