use Rattle.std.proofs.Common.{◌≡◌, replicate}
use Rattle.residue_machine.proofs.channels.Channels.of.Given as goal

abbrev pub invariant-channels : goal.invariant-channels
invariant-channels g l = l.corrections ≡ replicate l._channel 0
