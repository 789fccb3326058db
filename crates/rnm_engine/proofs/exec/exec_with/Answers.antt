use Rattle.std.proofs.Common.{[], ℕ, Err, ap, length, sym, subst, ◌≡◌, ◌∙◌}
use Rattle.moduli_sets.specs.Name.{set_of_name}
use Rattle.moduli_sets.specs.Set.{ModuliSet}
use Rattle.fault_book.specs.Book.{Book}
use Rattle.fault_book.specs.FaultText.{IsBookFault, book_faults}
use Rattle.machine_table.specs.Objects.{set_of_object}
use Rattle.job_endings.specs.declared.refusal.Stop.{Stop}
use Rattle.object_bytes.specs.Programs.{program_of}
use Rattle.rnm_engine.specs.Jobs.{Answer, Does, IsFaultsAnswer, IsOwn, IsRunOf, IsScheduleAnswer}
use Rattle.rnm_engine.proofs.ExecLemmas.{booked, refuses_book}
use Rattle.rnm_engine.proofs.exec.exec_with.Goals as goal

pub returns-in-Ok : goal.returns-in-Ok
returns-in-Ok g c =
    let channels = length (set_of_name (set_of_object c.args.object.now)).moduli in
    let Is : Book → Answer → Type 0 = λ book.
    IsScheduleAnswer channels c.args.schedule.now (IsRunOf c.args.options.steps c.args.options.journal (program_of c.args.object.now) c.args.numbers.items book) in
    let none = subst (λ (set : ModuliSet). book_faults (length set.moduli) c.args.faults.now ≡ []) (c.of.ensures ∙ ap set_of_name c.set.ensures) c.in-Ok.ensures.0 in
    booked g.K.Sink.puts g.K.Sink.state c.args.sink.now channels c.args.faults.now Is
    c.in-Ok.book none c.in-Ok.ensures.1 c.exec_by.result c.exec_by.new.sink c.exec_by.ensures

pub returns-in-Err : goal.returns-in-Err
returns-in-Err g c =
    let old = c.args.sink.now in
    let channels = length (set_of_name (set_of_object c.args.object.now)).moduli in
    let Is : Book → Answer → Type 0 = λ book.
    IsScheduleAnswer channels c.args.schedule.now (IsRunOf c.args.options.steps c.args.options.journal (program_of c.args.object.now) c.args.numbers.items book) in
    let first = subst (λ (set : ModuliSet). IsBookFault (length set.moduli) c.args.faults.now c.in-Err.fault) (c.of.ensures ∙ ap set_of_name c.set.ensures) c.in-Err.ensures in
    subst (λ (stop : Stop). Does g.K.Sink.puts g.K.Sink.state old (IsOwn (IsFaultsAnswer channels c.args.faults.now Is)) (Err stop) old) (sym c.stop_of_book.ensures)
    (refuses_book g.K.Sink.puts g.K.Sink.state old channels c.args.faults.now Is c.in-Err.fault first)
