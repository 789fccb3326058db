use Rattle.std.proofs.Common.{List, length, sym, subst, ℕ}
use Rattle.moduli_sets.specs.Name.{set_of_name}
use Rattle.fault_book.specs.Book.{Book}
use Rattle.fault_book.specs.declared.schedule.Turn.{Turn}
use Rattle.lane_bank.specs.Bank.{lanes_at_start}
use Rattle.channel_scheduler.specs.Counts.{HasPerformed}
use Rattle.channel_scheduler.specs.Moments.{HasEnded, JournalIs}
use Rattle.machine_table.specs.Objects.{code_of, set_of_object, words_of}
use Rattle.shown_run.specs.Trace.{operations_of}
use Rattle.object_runs.specs.RunText.{trace_of}
use Rattle.object_runs.proofs.RunLemmas.{cut, whole}
use Rattle.object_runs.proofs.running.run_on.Goals as goal

pub returns-in-Unwritten : goal.returns-in-Unwritten
returns-in-Unwritten g c =
    let rack = c.args.rack in
    let object = c.args.object.now in
    let set = set_of_name (set_of_object object) in
    let trace = trace_of rack.faults set (code_of object) (words_of object) c.args.steps c.args.input.items in
    cut g.K.Sink.puts g.K.Sink.state (rack.channels.schedule, rack.channels.journal.room) rack.faults set (words_of object) trace c.args.sink.now
    (c.turns_end.ensures (operations_of trace) rack.channels.schedule (length (lanes_at_start set 0 (words_of object))))
    c.put_run-status.new.sink (rw c.in-Unwritten.is at c.put_run-status.ensures.puts)

pub returns : goal.returns
returns g c =
    let rack = c.args.rack in
    let object = c.args.object.now in
    let set = set_of_name (set_of_object object) in
    let trace = trace_of rack.faults set (code_of object) (words_of object) c.args.steps c.args.input.items in
    let start = lanes_at_start set 0 (words_of object) in
    let ops = operations_of trace in
    let entries = c.journal.result.now in
    let after = c.put_run-status.result.1.channels.rack in
    let ended = subst (λ r. HasEnded r.faults r.channels start ops) (sym c.rack.ensures) (c.put_run-status.ensures.ended c.in_default.not-Unwritten) in
    let kept = c.journal.ensures.ended start ops ended in
    let there = subst (λ r. JournalIs (HasPerformed ops) (r.channels.schedule, r.channels.journal.room) r.faults start ops entries) c.rack.ensures kept in
    let planned = subst (λ (plan : List Turn × ℕ). JournalIs (HasPerformed ops) plan after.faults start ops entries) c.put_run-status.ensures.plan there in
    let are = subst (λ (book : Book). JournalIs (HasPerformed ops) (rack.channels.schedule, rack.channels.journal.room) book start ops entries) c.put_run-status.ensures.book planned in
    whole g.K.Sink.puts g.K.Sink.state (rack.channels.schedule, rack.channels.journal.room) rack.faults set (words_of object) trace c.args.sink.now
    entries are c.put_run-status.new.sink c.put_run-status.result.0 c.put_journal.result c.put_journal.new.sink c.in_default.not-Unwritten
    c.put_run-status.ensures.puts c.put_journal.ensures
