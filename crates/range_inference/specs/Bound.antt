-- The range of a named set.
use Rattle.std.specs.Prelude.{ℤ, pos, ◌^◌, ◌≤ℤ◌, ◌<ℤ◌}
use Rattle.moduli_sets.specs.Set.{range_bound}
use Rattle.moduli_sets.specs.Name.{set_of_name}
use Rattle.moduli_sets.specs.declared.set_name.SetName.{SetName}

-- B of the set of a name: the integers of its range lie from -B to B
abbrev pub bound_of : SetName → ℤ
bound_of name = pos (range_bound (set_of_name name))

-- a bound of which two add up to less than 2 ^ 127
pub record IsSetBound (bound : ℤ) : Type 0 where
  pub low : pos 0 ≤ℤ bound
  pub high : bound <ℤ pos (2 ^ 126)
