-- What a decoder by syndromes reads off a vector.
use Rattle.std.specs.Prelude.{◌≡◌, ◌≢◌, ℕ, ℤ, pos, ◌+◌, ◌<◌, ◌-ℤ◌, List, length, slice_index}
use Rattle.number_theory.specs.Residue.{residue}
use Rattle.moduli_sets.specs.Set.{ModuliSet}
use Rattle.syndrome_table.specs.Syndrome.{IsInWindow}

-- y is the integer from -B to M - 1 - B that has the information residues of v
pub record IsInformation (set : ModuliSet) (v : List ℕ) (y : ℤ) : Type 0 where
  pub window : IsInWindow set y
  pub residues : (j : ℕ) → j < set.info → residue y (slice_index set.moduli j) ≡ slice_index v j

-- the redundant residues of v less those of y
pub record IsTriple (set : ModuliSet) (v : List ℕ) (y : ℤ) (t : List ℕ) : Type 0 where
  pub three : length t ≡ 3
  pub residues : (k : ℕ) → k < 3 → slice_index t k ≡ residue (pos (slice_index v (set.info + k)) -ℤ y) (slice_index set.moduli (set.info + k))

-- the triple is 0 but at k
pub record IsAlone (t : List ℕ) (k : ℕ) : Type 0 where
  pub place : k < 3
  pub others : (j : ℕ) → j < 3 → j ≢ k → slice_index t j ≡ 0
