use Rattle.std.proofs.Common.{◌≡◌, drop}
use Rattle.mixed_radix.proofs.order.compare.Given as goal

-- the digits above agree
abbrev pub invariant-loop-n : goal.invariant-loop-n
invariant-loop-n l = drop l.n l.a ≡ drop l.n l.b
