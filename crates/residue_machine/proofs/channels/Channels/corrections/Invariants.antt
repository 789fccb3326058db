use Rattle.std.proofs.Common.{◌≡◌, take}
use Rattle.residue_machine.proofs.channels.Channels.corrections.Given as goal

abbrev pub invariant-channels : goal.invariant-channels
invariant-channels g l = l.copy ≡ take l.i l.self-inside.corrections
