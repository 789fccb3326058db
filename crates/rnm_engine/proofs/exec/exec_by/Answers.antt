use Rattle.std.proofs.Common.{All, List, Err, ap, length, sym, subst, ◌∙◌}
use Rattle.moduli_sets.specs.Name.{set_of_name}
use Rattle.moduli_sets.specs.Set.{ModuliSet}
use Rattle.fault_book.specs.ScheduleText.{AreTurns, IsScheduleFault}
use Rattle.fault_book.specs.Turns.{IsTurnOf}
use Rattle.fault_book.specs.declared.schedule.Turn.{Turn}
use Rattle.machine_table.specs.Objects.{set_of_object}
use Rattle.job_endings.specs.declared.refusal.Stop.{Stop}
use Rattle.object_bytes.specs.Programs.{program_of}
use Rattle.rnm_engine.specs.Jobs.{Answer, Does, IsOwn, IsRunOf, IsScheduleAnswer}
use Rattle.rnm_engine.proofs.ExecLemmas.{refuses_turns, turned}
use Rattle.rnm_engine.proofs.exec.exec_by.Goals as goal

pub run_object-requires-clause-turns : goal.run_object-requires-clause-turns
run_object-requires-clause-turns g c =
    subst (λ (set : ModuliSet). All (IsTurnOf (length set.moduli)) c.in-Ok.turns) (c.of.ensures ∙ ap set_of_name c.set.ensures) c.in-Ok.ensures.turns

pub returns-in-Ok : goal.returns-in-Ok
returns-in-Ok g c =
    let channels = length (set_of_name (set_of_object c.args.object.now)).moduli in
    let are = subst (λ (set : ModuliSet). AreTurns (length set.moduli) c.args.schedule.now c.in-Ok.turns) (c.of.ensures ∙ ap set_of_name c.set.ensures) c.in-Ok.ensures.text in
    turned g.K.Sink.puts g.K.Sink.state c.args.sink.now channels c.args.schedule.now
    (IsRunOf c.args.options.steps c.args.options.journal (program_of c.args.object.now) c.args.numbers.items c.args.book)
    c.in-Ok.turns are c.run_object.result c.run_object.new.sink c.run_object.ensures

pub returns-in-Err : goal.returns-in-Err
returns-in-Err g c =
    let old = c.args.sink.now in
    let channels = length (set_of_name (set_of_object c.args.object.now)).moduli in
    let Is : List Turn → Answer → Type 0 =
    IsRunOf c.args.options.steps c.args.options.journal (program_of c.args.object.now) c.args.numbers.items c.args.book in
    let first = subst (λ (set : ModuliSet). IsScheduleFault (length set.moduli) c.args.schedule.now c.in-Err.fault) (c.of.ensures ∙ ap set_of_name c.set.ensures) c.in-Err.ensures.text in
    subst (λ (stop : Stop). Does g.K.Sink.puts g.K.Sink.state old (IsOwn (IsScheduleAnswer channels c.args.schedule.now Is)) (Err stop) old) (sym c.stop_of_schedule.ensures)
    (refuses_turns g.K.Sink.puts g.K.Sink.state old channels c.args.schedule.now Is c.in-Err.fault first)
