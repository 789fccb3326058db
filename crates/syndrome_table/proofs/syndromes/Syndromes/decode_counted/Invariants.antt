use Rattle.std.proofs.Common.{◌≡◌, ◌+◌}
use Rattle.syndrome_table.proofs.syndromes.Syndromes.decode_counted.Given as goal

-- a step for each digit
abbrev pub invariant-loop : goal.invariant-loop
invariant-loop g l = l.steps ≡ l.initial.steps + l.counter
