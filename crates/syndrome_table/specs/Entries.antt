-- The entries of a table: the triples of all cases, each once.
use Rattle.std.specs.Prelude.{◌≡◌, ℕ, ◌<◌, List, length, slice_index, slice_index_or, ◌⊎◌}
use Rattle.moduli_sets.specs.Set.{ModuliSet}
use Rattle.syndrome_table.specs.declared.table.Entry.{Entry}
use Rattle.syndrome_table.specs.Entry.{entry_triple, error_of}
use Rattle.syndrome_table.specs.Syndrome.{IsSyndrome}

-- triples in ascending order: the first place in which they differ tells it
abbrev pub Precedes : List ℕ → List ℕ → Type 0
Precedes t u = (slice_index t 0 < slice_index u 0)
    ⊎ ((slice_index t 0 ≡ slice_index u 0) × ((slice_index t 1 < slice_index u 1)
    ⊎ ((slice_index t 1 ≡ slice_index u 1) × (slice_index t 2 < slice_index u 2))))

-- an entry of the table has this triple, this channel and this error
pub record HasEntry (set : ModuliSet) (table : List Entry) (t : List ℕ) (i e : ℕ) : Type 0 where
  pub place : ℕ
  pub in_table : place < length table
  pub triple : (d : Entry) → entry_triple (slice_index_or table place d) ≡ t
  pub channel : (d : Entry) → (slice_index_or table place d).channel ≡ i
  pub error : (d : Entry) → error_of set (slice_index_or table place d) ≡ e

-- the entries of a table are the triples of all cases, each once, with its channel and error, ascending
pub record AreSyndromes (set : ModuliSet) (table : List Entry) : Type 0 where
  pub each : (k : ℕ) (d : Entry) → k < length table
      → IsSyndrome set (entry_triple (slice_index_or table k d)) (slice_index_or table k d).channel (error_of set (slice_index_or table k d))
  pub all : (t : List ℕ) (i e : ℕ) → IsSyndrome set t i e → HasEntry set table t i e
  pub ascending : (a b : ℕ) (d : Entry) → a < b → b < length table
      → Precedes (entry_triple (slice_index_or table a d)) (entry_triple (slice_index_or table b d))
