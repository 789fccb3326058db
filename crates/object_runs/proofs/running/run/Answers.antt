use Rattle.moduli_sets.specs.Name.{set_of_name}
use Rattle.fault_book.specs.Book.{Book}
use Rattle.machine_table.specs.Objects.{code_of, set_of_object, words_of}
use Rattle.shown_run.specs.Trace.{Trace}
use Rattle.object_runs.specs.RunText.{trace_of}
use Rattle.object_runs.proofs.RunLemmas.{same_run}
use Rattle.object_runs.proofs.running.run.Goals as goal

pub returns : goal.returns
returns g c =
    let object = c.args.object.now in
    let set = set_of_name (set_of_object object) in
    let by : Book → Trace = λ book. trace_of book set (code_of object) (words_of object) c.args.options.steps c.args.input.items in
    same_run g.K.Sink.puts g.K.Sink.state set (words_of object) by c.args.sink.now c.run_on.result c.run_on.new.sink _ _ _ _
    c.in_ok-rack.ensures.plan c.in_ok-rack.ensures.book c.run_on.ensures
