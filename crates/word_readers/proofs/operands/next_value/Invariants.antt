use Rattle.std.proofs.Common.{◌≡◌, ◌-◌, length, map, string_bytes}
use Rattle.word_readers.specs.Operands.{values_from}
use Rattle.word_readers.proofs.operands.next_value.Given as goal

-- there is no value up to here
abbrev pub invariant-loop-i : goal.invariant-loop-i
invariant-loop-i l = values_from l.name l.from (map string_bytes l.words) ≡ values_from l.name l.i (map string_bytes l.words)

abbrev pub decreases-loop-i : goal.decreases-loop-i
decreases-loop-i l = length l.words - l.i
