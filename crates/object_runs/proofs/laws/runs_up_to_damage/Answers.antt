use Rattle.std.proofs.Common.{None}
use Rattle.moduli_sets.specs.Set.{radius}
use Rattle.shown_run.specs.Decoded.{nearest}
use Rattle.object_runs.proofs.laws.runs_up_to_damage.Goals as goal

pub returns-clause-run : goal.returns-clause-run
returns-clause-run c = λ set code words input book n stays few.
    c.shown_runs_are_fault_runs.ensures (nearest (radius set) None set) None set code words input book n stays (c.decoders_tell.ensures.no_other set book stays.rules few)

pub returns-clause-front : goal.returns-clause-front
returns-clause-front c = λ set code words input book n stays few.
    c.faults_cut_runs.ensures (nearest (radius set) None set) set code words input book n stays (c.decoders_tell.ensures.no_other set book stays.rules few)

pub returns-clause-unnamed : goal.returns-clause-unnamed
returns-clause-unnamed c = λ set code words input book n channel stays few right.
    c.unnamed_channels_stay_right.ensures.corrections (nearest (radius set) None set) None set code words input book n channel stays (c.decoders_tell.ensures.no_other set book stays.rules few) right
