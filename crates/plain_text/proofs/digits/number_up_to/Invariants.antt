use Rattle.std.proofs.Common.{◌≡◌, take}
use Rattle.plain_text.specs.Digits.{value_of_digits}
use Rattle.plain_text.proofs.digits.number_up_to.Given as goal

abbrev pub invariant-loop-digit : goal.invariant-loop-digit
invariant-loop-digit l = l.value ≡ value_of_digits (take l.digit-index l.digits)
