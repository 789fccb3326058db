use Rattle.std.proofs.Common.{inr, refl}
use Rattle.outside.proofs.Runs.{BrokeOff-one}
use Rattle.job_endings.proofs.lines.put_piece.Goals as goal

pub returns-in-Failed : goal.returns-in-Failed
returns-in-Failed g c = inr (refl, (1, BrokeOff-one c.args.sink.now c.args.piece.now c.put.new.self c.in-Failed.ensures.leaves c.put.ensures.late c.put.ensures.puts))
