use Rattle.object_bytes.specs.Programs.{program_of}
use Rattle.rnm_engine.proofs.ExecLemmas.{ran}
use Rattle.rnm_engine.proofs.exec.run_object.Goals as goal

pub returns-in-Ok : goal.returns-in-Ok
returns-in-Ok g c =
    ran g.K.Sink.puts g.K.Sink.state c.args.sink.now c.args.options.steps c.args.options.journal (program_of c.args.object.now) c.args.numbers.items c.args.book c.args.turns
    c.in-Ok.status c.run.new.sink c.in-Ok.ensures
