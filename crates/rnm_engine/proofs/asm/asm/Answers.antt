use Rattle.std.proofs.Common.{Err, sym, subst}
use Rattle.job_endings.specs.declared.refusal.Stop.{Stop}
use Rattle.object_bytes.specs.Programs.{program_of}
use Rattle.rnm_engine.specs.Jobs.{Does, IsAsmAnswer, IsOwn}
use Rattle.rnm_engine.proofs.ObjectLemmas.{assembled, refuses_text}
use Rattle.rnm_engine.proofs.asm.asm.Goals as goal

pub returns-in-Ok : goal.returns-in-Ok
returns-in-Ok g c =
    assembled g.K.Sink.puts g.K.Sink.state c.args.sink.now c.args.text.now (program_of c.in-Ok.object) c.in-Ok.ensures c.rules.ensures.fault
    c.put_object.result c.put_object.new.sink c.put_object.ensures

pub returns-in-Err : goal.returns-in-Err
returns-in-Err g c =
    let old = c.args.sink.now in
    subst (λ (stop : Stop). Does g.K.Sink.puts g.K.Sink.state old (IsOwn (IsAsmAnswer c.args.text.now)) (Err stop) old) (sym c.stop_of_assembly.ensures)
    (refuses_text g.K.Sink.puts g.K.Sink.state old c.args.text.now c.in-Err.fault c.in-Err.ensures)
