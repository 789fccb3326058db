use Rattle.rnm_engine.proofs.ScheduleLemmas.{alike}
use Rattle.rnm_engine.proofs.laws.schedules_change_no_line.Goals as goal

pub returns : goal.returns
returns c = λ steps journal other_journal object input faults schedule other_schedule pieces others status other_status one other.
    alike steps object input faults journal other_journal schedule other_schedule pieces others status other_status one other
