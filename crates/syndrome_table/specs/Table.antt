-- The table of syndromes.
use Rattle.std.specs.Prelude.{◌≡◌, ◌≢◌, ℕ, ℤ, pos, neg_ℤ, ◌*◌, ◌*ℤ◌, ◌<◌, ◌≤ℤ◌, ◌<ℤ◌, List, slice_index, slice_index_or, length}
use Rattle.number_theory.specs.Residue.{residue}
use Rattle.moduli_sets.specs.Set.{ModuliSet, redundant, information_product, range_bound}
use Rattle.moduli_sets.specs.Vector.{vector_of}
use Rattle.syndrome_table.specs.declared.table.Entry.{Entry}
use Rattle.syndrome_table.specs.Entry.{entry_triple, entry_key, key_of, times_of, error_of}
use Rattle.syndrome_table.specs.Syndrome.{IsSyndrome}

-- how far the wrong number may lie above the right one where channel i has the error e: below M, and where it lies
-- below, by 2 * B at the most
pub record IsShift (set : ModuliSet) (i e : ℕ) (d : ℤ) : Type 0 where
  pub channel : i < set.info
  pub some : 0 < e
  pub error : e ≡ residue d (slice_index set.moduli i)
  pub others : (j : ℕ) → j < set.info → j ≢ i → residue d (slice_index set.moduli j) ≡ 0
  pub low : neg_ℤ (pos (2 * range_bound set)) ≤ℤ d
  pub high : d <ℤ pos (information_product set)

-- how far an entry's wrong number lies above the right one
abbrev pub shift_of : List ℤ → Entry → ℤ
shift_of cofactors entry = times_of entry *ℤ slice_index_or cofactors entry.channel (pos 0)

-- the entry of a case
pub record IsEntry (set : ModuliSet) (cofactors : List ℤ) (entry : Entry) : Type 0 where
  pub shift : IsShift set entry.channel (error_of set entry) (shift_of cofactors entry)
  pub triple : entry_triple entry ≡ vector_of (redundant set) (neg_ℤ (shift_of cofactors entry))

-- the keys ascend
abbrev pub Ascends : List Entry → Type 0
Ascends table = (i j : ℕ) (d : Entry) → i < j → j < length table → entry_key (slice_index_or table i d) < entry_key (slice_index_or table j d)

-- no triple of a case lacks its entry
abbrev pub IsComplete : ModuliSet → List Entry → Type 0
IsComplete set table = (t : List ℕ) (i e : ℕ) → IsSyndrome set t i e → ((k : ℕ) (d : Entry) → k < length table → entry_key (slice_index_or table k d) ≢ key_of t) → ⊥
