-- A table that is being filled.
use Rattle.std.specs.Prelude.{◌≡◌, ◌≢◌, ℕ, ℤ, pos, negsuc, neg_ℤ, ◌+◌, ◌*◌, ◌%◌, ◌*ℤ◌, ◌<◌, ◌≤◌, List, length, slice_index, slice_index_or, ◌⊎◌}
use Rattle.number_theory.specs.Coprime.{IsInverse}
use Rattle.number_theory.specs.Residue.{residue}
use Rattle.moduli_sets.specs.Set.{ModuliSet, information_product, range_bound}
use Rattle.syndrome_table.specs.declared.table.Entry.{Entry}
use Rattle.syndrome_table.specs.declared.stride.Stride.{Stride}
use Rattle.syndrome_table.specs.Entry.{cofactor, entry_key, times_of}
use Rattle.syndrome_table.specs.Table.{IsEntry}

-- each number is M without the modulus of its channel
abbrev pub AreCofactors : ModuliSet → List ℤ → Type 0
AreCofactors set cofactors = (i : ℕ) → i < set.info → slice_index_or cofactors i (pos 0) *ℤ pos (slice_index set.moduli i) ≡ pos (information_product set)

-- what the redundant moduli leave of the cofactor of channel i: by the first its inverse, by the others its residues
pub record IsStride (set : ModuliSet) (i : ℕ) (stride : Stride) : Type 0 where
  pub inverse : IsInverse (cofactor set i) (slice_index set.moduli set.info) stride.inverse
  pub second : stride.second ≡ cofactor set i % slice_index set.moduli (set.info + 1)
  pub third : stride.third ≡ cofactor set i % slice_index set.moduli (set.info + 2)

abbrev pub AreStrides : ModuliSet → List Stride → Type 0
AreStrides set strides = (i : ℕ) (d : Stride) → i < set.info → IsStride set i (slice_index_or strides i d)

-- a wrong residue in channel i leads so many cofactors above the right integer, or below it
abbrev pub IsReal : ModuliSet → ℕ → ℤ → Type 0
IsReal set i (pos k) = (0 < k) × (k < slice_index set.moduli i)
IsReal set i (negsuc k) = (k + 1 < slice_index set.moduli i) × ((k + 1) * cofactor set i ≤ 2 * range_bound set)

-- the first residue of the entry of so many cofactors of channel i
abbrev pub first_of : ModuliSet → ℕ → ℤ → ℕ
first_of set i times = residue (neg_ℤ (times *ℤ pos (cofactor set i))) (slice_index set.moduli set.info)

-- the turn of an entry among those of its first residue: each channel has two, for above and for below
abbrev pub turn_of : ℕ → ℤ → ℕ
turn_of i (pos k) = 2 * i
turn_of i (negsuc k) = 2 * i + 1

-- the pass has come by it
abbrev pub IsPassed : ModuliSet → ℕ → ℕ → ℕ → ℤ → Type 0
IsPassed set first turn i times = (first_of set i times < first) ⊎ ((first_of set i times ≡ first) × (turn_of i times < turn))

-- no entry is of this channel and so many of its cofactors
abbrev pub Lacks : List Entry → ℕ → ℤ → Type 0
Lacks table i times = (k : ℕ) (d : Entry) → k < length table → (slice_index_or table k d).channel ≡ i → times_of (slice_index_or table k d) ≢ times

-- it has the entries of the first residues below `first`, and of that one those of the turns below `turn`
pub record IsFilled (set : ModuliSet) (cofactors : List ℤ) (table : List Entry) (first turn : ℕ) : Type 0 where
  pub right : (k : ℕ) (d : Entry) → k < length table → IsEntry set cofactors (slice_index_or table k d)
  pub passed : (k : ℕ) (d : Entry) → k < length table → IsPassed set first turn (slice_index_or table k d).channel (times_of (slice_index_or table k d))
  pub apart : (a b : ℕ) (d : Entry) → a < b → b < length table → entry_key (slice_index_or table a d) ≢ entry_key (slice_index_or table b d)
  pub all : (i : ℕ) (times : ℤ) → i < set.info → IsReal set i times → IsPassed set first turn i times → Lacks table i times → ⊥
  pub small : length table ≤ 24 * first + turn
