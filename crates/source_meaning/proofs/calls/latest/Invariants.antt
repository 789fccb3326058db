use Rattle.std.proofs.Common.{◌≡◌, ℕ, ◌≤◌, length, take}
use Rattle.resolved_tree.specs.Meaning.{calls_of}
use Rattle.source_meaning.proofs.calls.latest.Given as goal

-- those that are passed have other numbers
abbrev pub invariant-loop-at : goal.invariant-loop-at
invariant-loop-at l = record {
  within : l.at ≤ length l.procedures;
  passed : (size : ℕ) → calls_of size l.procedures l.number ≡ calls_of size (take l.at l.procedures) l.number;
}

abbrev pub decreases-loop-at : goal.decreases-loop-at
decreases-loop-at l = l.at
