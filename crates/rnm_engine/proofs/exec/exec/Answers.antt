use Rattle.std.proofs.Common.{Err, sym, subst}
use Rattle.job_endings.specs.declared.refusal.Stop.{Stop}
use Rattle.object_bytes.specs.Loading.{Program}
use Rattle.object_bytes.specs.Programs.{program_of}
use Rattle.rnm_engine.specs.Jobs.{Answer, Does, IsExecAnswer, IsInputAnswer, IsOwn, IsProgramAnswer}
use Rattle.rnm_engine.proofs.ObjectLemmas.{loaded, refuses}
use Rattle.rnm_engine.proofs.exec.exec.Goals as goal

pub returns-in-Ok : goal.returns-in-Ok
returns-in-Ok g c =
    let Is : Program → Answer → Type 0 = λ program. IsInputAnswer c.args.input.now (IsProgramAnswer c.args.options.steps c.args.options.journal program c.args.faults.now c.args.schedule.now) in
    loaded g.K.Sink.puts g.K.Sink.state c.args.sink.now c.args.object.now Is (program_of c.in-Ok.object) c.in-Ok.ensures.no_fault c.in-Ok.ensures.program
    c.exec_on.result c.exec_on.new.sink c.exec_on.ensures

pub returns-in-Err : goal.returns-in-Err
returns-in-Err g c =
    let Is : Program → Answer → Type 0 = λ program. IsInputAnswer c.args.input.now (IsProgramAnswer c.args.options.steps c.args.options.journal program c.args.faults.now c.args.schedule.now) in
    let old = c.args.sink.now in
    subst (λ (stop : Stop). Does g.K.Sink.puts g.K.Sink.state old
    (IsOwn (IsExecAnswer c.args.options.steps c.args.options.journal c.args.object.now c.args.input.now c.args.faults.now c.args.schedule.now)) (Err stop) old) (sym c.stop_of_load.ensures)
    (refuses g.K.Sink.puts g.K.Sink.state old c.args.object.now Is c.in-Err.fault c.in-Err.ensures.fault)
