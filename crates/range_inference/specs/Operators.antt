-- Intervals whose ends are small enough to add up, and those whose ends fit a word of the program.
use Rattle.std.specs.Prelude.{ℤ, pos, neg_ℤ, ◌^◌, ◌≤ℤ◌, ◌<ℤ◌}
use Rattle.range_inference.specs.declared.interval.Interval.{Interval}

pub record IsSmallNumber (x : ℤ) : Type 0 where
  pub low : neg_ℤ (pos (2 ^ 126)) <ℤ x
  pub high : x <ℤ pos (2 ^ 126)

pub record IsSmall (a : Interval) : Type 0 where
  pub low_from : neg_ℤ (pos (2 ^ 126)) <ℤ a.low
  pub low_to : a.low <ℤ pos (2 ^ 126)
  pub high_from : neg_ℤ (pos (2 ^ 126)) <ℤ a.high
  pub high_to : a.high <ℤ pos (2 ^ 126)

-- both ends are an i128
pub record FitsWord (a : Interval) : Type 0 where
  pub low : neg_ℤ (pos (2 ^ 127)) ≤ℤ a.low
  pub high : a.high <ℤ pos (2 ^ 127)
