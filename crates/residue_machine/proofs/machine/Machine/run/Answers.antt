use Rattle.std.proofs.Common.{[], None, sym, subst, ◌∙◌}
use Rattle.moduli_sets.specs.Set.{radius}
use Rattle.lane_bank.specs.Bank.{lanes_at_start}
use Rattle.lane_bank.proofs.BankLemmas.{lanes_after_all-none}
use Rattle.shown_run.specs.Decoded.{nearest}
use Rattle.residue_machine.specs.Machine.{IsRun, machine_of}
use Rattle.residue_machine.proofs.FaultyRunLemmas.{by_faults}
use Rattle.residue_machine.proofs.machine.Machine.run.Goals as goal

pub returns-clause-faults : goal.returns-clause-faults
returns-clause-faults g c = λ set code words input loaded stays few whole.
    let racks = g.R.Rack in
    let old = c.args.self.now in
    let book = racks.book_of old.channels.rack in
    let inside = c.self.inside in
    let start = lanes_at_start set 0 words in
    by_faults set code words input c.args.steps racks g.K.Sink.puts g.K.Sink.state c.args.sink.now c.run_on-ending.new.sink
    old (machine_of inside.channels inside.position inside.taken inside.ended) (machine_of c.settle.new.self inside.position inside.taken inside.ended) c.run_on-ending.result loaded
    (λ rack made. g.met.R.Rack.lanes_under_way rack start [] made ∙ lanes_after_all-none (racks.book_of rack) start)
    (c.shown_runs_are_fault_runs.ensures (nearest (radius set) None set) None set code words input book c.args.steps stays
    (c.decoders_tell.ensures.no_other set book stays.rules few))
    whole
    (subst (λ m. IsRun racks radius None racks.IsUnderWay g.K.Sink.puts g.K.Sink.state c.args.steps old c.args.sink.now c.run_on-ending.result m c.run_on-ending.new.sink) (sym c.self.view_is) c.run_on-ending.ensures)
    c.settle.ensures
