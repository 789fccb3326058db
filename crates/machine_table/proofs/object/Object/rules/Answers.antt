use Rattle.machine_table.proofs.SoundLemmas.{IsSound-from_none}
use Rattle.machine_table.proofs.object.Object.rules.Goals as goal

pub returns-clause-sound : goal.returns-clause-sound
returns-clause-sound c = IsSound-from_none _ _ _ c.args.self.now.no_fault
