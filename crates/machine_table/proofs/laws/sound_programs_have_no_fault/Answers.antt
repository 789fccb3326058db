use Rattle.machine_table.proofs.SoundLemmas.{IsSound-from_none, object_fault-none}
use Rattle.machine_table.proofs.laws.sound_programs_have_no_fault.Goals as goal

pub returns-clause-faultless : goal.returns-clause-faultless
returns-clause-faultless c = IsSound-from_none

pub returns-clause-sound : goal.returns-clause-sound
returns-clause-sound c = object_fault-none
