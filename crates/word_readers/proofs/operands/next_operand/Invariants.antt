use Rattle.std.proofs.Common.{◌≡◌, ◌-◌, length, map, string_bytes}
use Rattle.word_readers.specs.Operands.{operands_from}
use Rattle.word_readers.proofs.operands.next_operand.Given as goal

-- there is no operand up to here
abbrev pub invariant-loop-i : goal.invariant-loop-i
invariant-loop-i l = operands_from l.from (map string_bytes l.words) ≡ operands_from l.i (map string_bytes l.words)

abbrev pub decreases-loop-i : goal.decreases-loop-i
decreases-loop-i l = length l.words - l.i
