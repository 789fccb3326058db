use Rattle.std.proofs.Common.{◌≡◌, take}
use Rattle.residue_tests.proofs.digits.list.Given as goal

abbrev pub invariant-loop-number : goal.invariant-loop-number
invariant-loop-number l = l.digits ≡ take l.number-index l.numbers
