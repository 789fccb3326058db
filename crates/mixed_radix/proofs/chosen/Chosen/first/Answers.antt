use Rattle.std.proofs.Common.{◌≡◌, ◌<◌, length, arith, ap, sym, subst}
use Rattle.std.proofs.lemmas.List.FromFn.{length-range_with_len}
use Rattle.mixed_radix.specs.Chosen.{IsChoice}
use Rattle.mixed_radix.proofs.ChosenLemmas.{IsChoice-range, range_more}
use Rattle.mixed_radix.proofs.chosen.Chosen.first.Goals as goal

pub push-requires : goal.push-requires
push-requires c =
    let size : length c.loop-channel.channels.items < 12 = omega (arith, ap length c.loop-channel.invariant, length-range_with_len 0 c.loop-channel.channel) in
    (omega arith, size)

pub loop-channel-preserved : goal.loop-channel-preserved
loop-channel-preserved c = let more = range_more c.loop-channel.channel in cc

pub invariant_of-result : goal.invariant_of-result
invariant_of-result c =
    let all : c.loop-channel.channel ≡ c.args.count = omega arith in
    subst IsChoice (sym c.loop-channel.invariant) (IsChoice-range c.loop-channel.channel (omega arith) (omega arith))
