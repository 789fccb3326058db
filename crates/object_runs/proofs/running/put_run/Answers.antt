use Rattle.std.proofs.Common.{[], sym, ◌∙◌}
use Rattle.moduli_sets.specs.Name.{set_of_name}
use Rattle.lane_bank.specs.Bank.{lanes_at_start}
use Rattle.lane_bank.proofs.BankLemmas.{lanes_after_all-none}
use Rattle.machine_table.specs.Objects.{code_of, set_of_object, words_of}
use Rattle.object_runs.proofs.RunLemmas.{breaks_off, ends_put, has_come, same_rack}
use Rattle.object_runs.proofs.running.put_run.Goals as goal

pub returns-in_default-clause-puts : goal.returns-in_default-clause-puts
returns-in_default-clause-puts g c =
    let object = c.args.object.now in
    let set = set_of_name (set_of_object object) in
    let start = lanes_at_start set 0 (words_of object) in
    let lanes = g.met.R.Rack.lanes_under_way c.args.rack start [] c.requires.made ∙ lanes_after_all-none (g.R.Rack.book_of c.args.rack) start in
    breaks_off g.R.Rack g.R.Rack.HasEnded g.K.Sink.puts g.K.Sink.state set (code_of object) (words_of object) c.args.input.items c.args.rack c.args.decoder c.args.steps
    c.args.sink.now lanes c.run.result c.run.new.self c.run.new.sink (sym c.in_default.ensures) (rw c.load-machine.ensures at c.run.ensures.run)

pub returns-clause-puts : goal.returns-clause-puts
returns-clause-puts g c =
    let object = c.args.object.now in
    let set = set_of_name (set_of_object object) in
    let start = lanes_at_start set 0 (words_of object) in
    let lanes = g.met.R.Rack.lanes_under_way c.args.rack start [] c.requires.made ∙ lanes_after_all-none (g.R.Rack.book_of c.args.rack) start in
    ends_put g.R.Rack g.R.Rack.HasEnded g.K.Sink.puts g.K.Sink.state set (code_of object) (words_of object) c.args.input.items c.args.rack c.args.decoder c.args.steps
    c.args.sink.now lanes c.run.result c.run.new.self c.run.new.sink c.put_lines-status.new.sink c.in-Some.ending c.put_lines-status.result (sym c.in-Some.ensures)
    (rw c.load-machine.ensures at c.run.ensures.run) (rw (c.line.ensures, c.status.ensures, c.corrected_line-corrected.ensures, c.corrections.ensures) at c.put_lines-status.ensures)

pub returns-clause-ended : goal.returns-clause-ended
returns-clause-ended g c = λ written.
    let object = c.args.object.now in
    let set = set_of_name (set_of_object object) in
    let start = lanes_at_start set 0 (words_of object) in
    let lanes = g.met.R.Rack.lanes_under_way c.args.rack start [] c.requires.made ∙ lanes_after_all-none (g.R.Rack.book_of c.args.rack) start in
    has_come g.R.Rack g.R.Rack.HasEnded g.K.Sink.puts g.K.Sink.state set (code_of object) (words_of object) c.args.input.items c.args.rack c.args.decoder c.args.steps
    c.args.sink.now lanes c.requires.made c.run.result c.run.new.self c.run.new.sink c.in-Some.ending (sym c.in-Some.ensures) (rw c.load-machine.ensures at c.run.ensures.run)
