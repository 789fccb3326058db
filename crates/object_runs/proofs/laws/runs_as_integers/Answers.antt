use Rattle.std.proofs.Common.{◌+◌, None}
use Rattle.moduli_sets.specs.Set.{radius}
use Rattle.machine_table.specs.Integers.{integer_run}
use Rattle.shown_run.specs.Decoded.{nearest}
use Rattle.object_runs.specs.RunText.{trace_of}
use Rattle.object_runs.proofs.RunLemmas.{few_named, none_counted, tells}
use Rattle.object_runs.proofs.laws.runs_as_integers.Goals as goal

pub returns-clause-text : goal.returns-clause-text
returns-clause-text c = λ set code words input book n stays few.
    tells set (trace_of book set code words n input) (integer_run set code words n input)
    (c.few_faults_change_nothing.ensures.run (nearest (radius set) None set) set code words input book n stays (c.decoders_tell.ensures.each set None book stays.rules few))

pub returns-clause-counts : goal.returns-clause-counts
returns-clause-counts c = λ set code words input book n stays none.
    let tells_it = c.decoders_tell.ensures.no_other set book stays.rules (few_named book (radius set + 1) none) in
    none_counted set (trace_of book set code words n input)
    (λ i. c.unnamed_channels_stay_right.ensures.corrections (nearest (radius set) None set) None set code words input book n i stays tells_it (none i))
