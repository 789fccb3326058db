use Rattle.std.proofs.Common.{◌∙◌}
use Rattle.object_bytes.specs.Programs.{program_of}
use Rattle.rnm_engine.specs.Jobs.{bytes_of_program}
use Rattle.rnm_engine.proofs.ObjectLemmas.{puts_one}
use Rattle.rnm_engine.proofs.asm.put_object.Goals as goal

pub returns-in-Ok : goal.returns-in-Ok
returns-in-Ok g c =
    puts_one g.K.Sink.puts g.K.Sink.state c.args.sink.now (bytes_of_program (program_of c.args.object.now)) c.as_slice.result.now c.put_piece.result c.put_piece.new.sink
    (c.as_slice.ensures.value ∙ c.in-Ok.ensures) c.put_piece.ensures
