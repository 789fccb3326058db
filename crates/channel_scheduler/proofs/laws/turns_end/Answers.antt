use Rattle.channel_scheduler.proofs.TurnsEnd.{turns_end}
use Rattle.channel_scheduler.proofs.laws.turns_end.Goals as goal

pub returns : goal.returns
returns c = turns_end
