use Rattle.object_bytes.specs.Programs.{program_of}
use Rattle.rnm_engine.specs.Jobs.{IsProgramAnswer}
use Rattle.rnm_engine.proofs.ExecLemmas.{read_in}
use Rattle.rnm_engine.proofs.exec.exec_on.Goals as goal

pub returns-in-Ok : goal.returns-in-Ok
returns-in-Ok g c =
    read_in g.K.Sink.puts g.K.Sink.state c.args.sink.now c.args.input.now
    (IsProgramAnswer c.args.options.steps c.args.options.journal (program_of c.args.object.now) c.args.faults.now c.args.schedule.now)
    c.in-Ok.numbers.items c.in-Ok.ensures c.exec_with.result c.exec_with.new.sink c.exec_with.ensures
