-- Triples of wrong residues.
use Rattle.std.specs.Prelude.{◌≡◌, ℕ, ℤ, pos, neg_ℤ, ◌+◌, ◌%◌, ◌<◌, ◌+ℤ◌, ◌-ℤ◌, ◌≤ℤ◌, ◌<ℤ◌, List, slice_index, slice_set}
use Rattle.number_theory.specs.Residue.{residue}
use Rattle.moduli_sets.specs.Set.{ModuliSet, IsInRange, information, redundant, information_product, range_bound}
use Rattle.moduli_sets.specs.Vector.{vector_of}

-- y is one of the M integers from -B to M - 1 - B, which the information moduli tell apart
pub record IsInWindow (set : ModuliSet) (y : ℤ) : Type 0 where
  pub low : neg_ℤ (pos (range_bound set)) ≤ℤ y
  pub high : (y +ℤ pos (range_bound set)) <ℤ pos (information_product set)

-- the vector of x, in range, has the error e in the information channel i alone, and y has the wrong residues
pub record IsCase (set : ModuliSet) (i e : ℕ) (x y : ℤ) : Type 0 where
  pub channel : i < set.info
  pub error : 0 < e
  pub below : e < slice_index set.moduli i
  pub in_range : IsInRange set x
  pub window : IsInWindow set y
  pub residues : vector_of (information set) y
      ≡ slice_set (vector_of (information set) x) i ((residue x (slice_index set.moduli i) + e) % slice_index set.moduli i)

-- the redundant residues of x less those of y
abbrev pub triple_of : ModuliSet → ℤ → ℤ → List ℕ
triple_of set x y = vector_of (redundant set) (x -ℤ y)

-- the triple of a case
pub record IsSyndrome (set : ModuliSet) (triple : List ℕ) (i e : ℕ) : Type 0 where
  pub x : ℤ
  pub y : ℤ
  pub case : IsCase set i e x y
  pub is : triple ≡ triple_of set x y
