-- The integer of some channels of a vector, and what tells it.
use Rattle.std.specs.Prelude.{◌≡◌, ◌≢◌, ℕ, ◌<◌, ◌≤◌, ℤ, List, length, slice_index}
use Rattle.std.specs.List.{remove}
use Rattle.number_theory.specs.Coprime.{product}
use Rattle.moduli_sets.specs.Set.{ModuliSet, IsInRange, information_product}
use Rattle.moduli_sets.specs.Vector.{vector_of}
use Rattle.mixed_radix.specs.Chosen.{entries_at}

-- x is in range, and in the chosen channels it has the residues of v
pub record IsIntegerOf (set : ModuliSet) (which v : List ℕ) (x : ℤ) : Type 0 where
  pub in_range : IsInRange set x
  pub residues : entries_at which (vector_of set.moduli x) ≡ entries_at which v

-- the product of the information moduli, and at i that of all moduli but number i
pub record AreProducts (set : ModuliSet) (information : ℕ) (others : List ℕ) : Type 0 where
  pub information_is : information ≡ information_product set
  pub others_are : (i : ℕ) → i < length set.moduli → slice_index others i ≡ product (remove set.moduli i)

-- the lists have the same entries from place `low` on, below `high`
abbrev pub AgreeFrom : ℕ → ℕ → List ℕ → List ℕ → Type 0
AgreeFrom low high xs ys = (k : ℕ) → low ≤ k → k < high → slice_index xs k ≡ slice_index ys k

-- i is the first place from `low` on, below `high`, in which the lists differ
pub record IsFirstDifference (low high : ℕ) (xs ys : List ℕ) (i : ℕ) : Type 0 where
  pub at_least : low ≤ i
  pub inside : i < high
  pub differs : slice_index xs i ≢ slice_index ys i
  pub before : AgreeFrom low i xs ys
