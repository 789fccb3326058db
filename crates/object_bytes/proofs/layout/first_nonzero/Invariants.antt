use Rattle.std.proofs.Common.{◌≡◌, ◌+◌, drop}
use Rattle.object_bytes.specs.Layout.{first_nonzero}
use Rattle.object_bytes.proofs.layout.first_nonzero.Given as goal

-- the first is that of what is left
abbrev pub invariant-loop-i : goal.invariant-loop-i
invariant-loop-i l = first_nonzero (l.place + l.i) (drop l.i l.bytes) ≡ first_nonzero l.place l.bytes
