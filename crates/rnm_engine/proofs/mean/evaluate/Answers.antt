use Rattle.source_tree.specs.Run.{returned, trapped, spent}
use Rattle.rnm_engine.proofs.MeanLemmas.{ended, broke_off}
use Rattle.rnm_engine.proofs.mean.evaluate.Goals.{in-End, in-Trap, in-Spent}
use Rattle.rnm_engine.proofs.mean.evaluate.Goals as goal

pub returns-in-SinkFailed : goal.returns-in-SinkFailed
returns-in-SinkFailed g c =
    broke_off g.K.Sink.puts g.K.Sink.state c.args.sink.now c.args.steps c.args.ranged.now.checked.program c.args.input.now
    c.args.numbers.now.items c.requires c.mean.new.sink (rw c.as_slice.ensures.value at c.in-SinkFailed.ensures)

pub returns : goal.returns
returns g c =
    let put = rw (c.line.ensures, c.status.ensures) at c.put_lines.ensures in
    elim c.match-mean.branch [
      | in-End w ↦
          let (after, left, (wrote, is)) = rw c.as_slice.ensures.value at w.in-End.ensures in
          ended g.K.Sink.puts g.K.Sink.state c.args.sink.now c.args.steps c.args.ranged.now.checked.program c.args.input.now
          c.args.numbers.now.items c.requires (returned tt after left) c.mean.new.sink wrote is c.put_lines.result c.put_lines.new.sink (rw w.ending-is at put)
      | in-Trap w ↦
          let (wrote, is) = rw c.as_slice.ensures.value at w.in-Trap.ensures in
          ended g.K.Sink.puts g.K.Sink.state c.args.sink.now c.args.steps c.args.ranged.now.checked.program c.args.input.now
          c.args.numbers.now.items c.requires (trapped _ _) c.mean.new.sink wrote is c.put_lines.result c.put_lines.new.sink (rw w.ending-is at put)
      | in-Spent w ↦
          let (wrote, is) = rw c.as_slice.ensures.value at w.in-Spent.ensures in
          ended g.K.Sink.puts g.K.Sink.state c.args.sink.now c.args.steps c.args.ranged.now.checked.program c.args.input.now
          c.args.numbers.now.items c.requires spent c.mean.new.sink wrote is c.put_lines.result c.put_lines.new.sink (rw w.ending-is at put)
    ]
