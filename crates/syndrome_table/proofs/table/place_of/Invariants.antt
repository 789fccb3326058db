use Rattle.std.proofs.Common.{ℕ, ◌+◌, ◌-◌, ◌*◌, ◌^◌, ◌<◌, ◌≤◌, length, slice_index_or}
use Rattle.syndrome_table.specs.Entry.{entry_key}
use Rattle.syndrome_table.specs.declared.table.Entry.{Entry}
use Rattle.syndrome_table.proofs.table.place_of.Given as goal

-- entries below `low` have smaller keys, those from `high` on none smaller; each step has halved what is left
abbrev pub invariant-loop-low : goal.invariant-loop-low
invariant-loop-low g l =
    (l.low ≤ l.high)
    × (l.high ≤ length l.table)
    × ((k : ℕ) (d : Entry) → k < l.low → entry_key (slice_index_or l.table k d) < l.key)
    × ((k : ℕ) (d : Entry) → l.high ≤ k → k < length l.table → l.key ≤ entry_key (slice_index_or l.table k d))
    × (l.initial.steps ≤ l.steps)
    × (2 ^ (l.steps - l.initial.steps) * (l.high - l.low) ≤ length l.table)
    × (2 ^ (l.steps - l.initial.steps) ≤ 2 * length l.table + 1)

abbrev pub decreases-loop-low : goal.decreases-loop-low
decreases-loop-low g l = l.high - l.low
