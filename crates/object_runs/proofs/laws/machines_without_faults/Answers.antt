use Rattle.std.proofs.Common.{◌≡◌, length, replicate, false, None, sym, subst}
use Rattle.moduli_sets.specs.Set.{radius}
use Rattle.fault_book.specs.Book.{is_faulty}
use Rattle.fault_run.specs.Moments.{RunsAs}
use Rattle.machine_table.specs.Integers.{integer_run}
use Rattle.shown_run.specs.Decoded.{nearest}
use Rattle.shown_run.specs.Trace.{Trace}
use Rattle.object_runs.specs.RunText.{counts_of}
use Rattle.object_runs.proofs.RunLemmas.{few_named}
use Rattle.object_runs.proofs.laws.machines_without_faults.Goals as goal

pub returns : goal.returns
returns g c = λ set code words input rack decoder n stays way faultless.
    let book = g.R.Rack.book_of rack in
    let unnamed : (channel : _) → is_faulty book channel ≡ false = λ channel. c.laws_of_faults.ensures.named book channel (faultless channel) in
    let few = few_named book (radius set) unnamed in
    subst (λ (t : Trace). RunsAs t (integer_run set code words n input) × (counts_of set t ≡ replicate (length set.moduli) 0))
    (sym (c.machines_run_so.ensures set code words input rack decoder n way)) (
      c.few_faults_change_nothing.ensures.run (nearest (radius set) None set) set code words input book n stays (c.decoders_tell.ensures.each set None book stays.rules few),
      c.runs_as_integers.ensures.counts set code words input book n stays unnamed,
    )
