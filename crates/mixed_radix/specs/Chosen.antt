-- Channels that are chosen out of those of a set.
use Rattle.std.specs.Prelude.{ℕ, ◌<◌, List, map, length, slice_index, All}
use Rattle.std.specs.List.Sorted.{IsStrictlyIncreasing}

-- ascending channel numbers, one at least and 12 at most
pub record IsChoice (which : List ℕ) : Type 0 where
  pub some : 0 < length which
  pub few : length which < 13
  pub ascending : IsStrictlyIncreasing which

-- what stands at the chosen channels
abbrev pub entries_at : List ℕ → List ℕ → List ℕ
entries_at which xs = map (slice_index xs) which

-- each chosen channel is one of so many
abbrev pub AreBelow : ℕ → List ℕ → Type 0
AreBelow count which = All (λ i. i < count) which
