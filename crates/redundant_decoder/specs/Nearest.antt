-- The places in which vectors differ, and the nearest integer of a vector.
use Rattle.std.specs.Prelude.{◌≢◌, ℕ, zero, suc, ◌<◌, ◌≤◌, ◌==◌, ℤ, Bool, true, false, List, [], ◌∷◌, ◌++◌, map, length, slice_index, Option, Some, None, if◌then◌else◌}
use Rattle.std.specs.List.{remove}
use Rattle.number_theory.specs.Distance.{distance}
use Rattle.moduli_sets.specs.Set.{ModuliSet, IsInRange}
use Rattle.moduli_sets.specs.Vector.{vector_of}

-- a part of a list: at each place `true` keeps what stands there and `false` leaves it out
abbrev pub part : List Bool → List ℕ → List ℕ
part [] xs = []
part (keep ∷ keeps) [] = []
part (true ∷ keeps) (x ∷ xs) = x ∷ part keeps xs
part (false ∷ keeps) (x ∷ xs) = part keeps xs

-- the list without what stands at the erased place, where there is one
abbrev pub without : Option ℕ → List ℕ → List ℕ
without None xs = xs
without (Some i) xs = remove xs i

-- the places in which two lists differ, ascending; an erased place is passed over
abbrev pub different_places : Option ℕ → List ℕ → List ℕ → List ℕ
different_places erased [] ys = []
different_places erased (x ∷ xs) [] = []
different_places None (x ∷ xs) (y ∷ ys) = (if x == y then [] else (0 ∷ [])) ++ map suc (different_places None xs ys)
different_places (Some zero) (x ∷ xs) (y ∷ ys) = map suc (different_places None xs ys)
different_places (Some (suc i)) (x ∷ xs) (y ∷ ys) = (if x == y then [] else (0 ∷ [])) ++ map suc (different_places (Some i) xs ys)

-- the lists have different entries at place k, and it isn't erased
pub record DifferAt (erased : Option ℕ) (xs ys : List ℕ) (k : ℕ) : Type 0 where
  pub inside : k < length xs
  pub counts : erased ≢ Some k
  pub differs : slice_index xs k ≢ slice_index ys k

-- x is in range, and its vector is at distance t from v at the most; an erased channel counts for nothing
pub record IsWithin (t : ℕ) (erased : Option ℕ) (set : ModuliSet) (v : List ℕ) (x : ℤ) : Type 0 where
  pub in_range : IsInRange set x
  pub close : distance (without erased (vector_of set.moduli x)) (without erased v) ≤ t

-- the nearest integer of v: the one in range within distance t, where there is one
abbrev pub IsNearest : ℕ → Option ℕ → ModuliSet → List ℕ → Option ℤ → Type 0
IsNearest t erased set v (Some x) = IsWithin t erased set v x
IsNearest t erased set v None = (x : ℤ) → IsWithin t erased set v x → ⊥
