use Rattle.std.proofs.Common.{ℕ, arith, length-take, length-drop}
use Rattle.outside.proofs.Streams.{wrote_more}
use Rattle.outside.proofs.out_sink.write_whole.Goals as goal

pub loop-taken-preserved : goal.loop-taken-preserved
loop-taken-preserved g c = record {
  in_range = omega (arith, c.in-Ok.ensures.bound, length-take {A = ℕ}, length-drop {A = ℕ});
  wrote = wrote_more _ _ _ c.loop-taken.taken c.in-Ok.count c.args.bytes.now c.loop-taken.invariant.in_range c.loop-taken.invariant.wrote c.in-Ok.ensures.bytes;
}
