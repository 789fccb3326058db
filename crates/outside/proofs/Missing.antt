-- What a failed fetch of a shelf in memory leaves, by whether the name has a file.
use Rattle.std.proofs.Common.{◌≡◌, ℕ, List, ◌⊎◌, inl, inr, Some, None, sym, refl, arith}
use Rattle.plain_text.specs.Lookup.{lookup}
use Rattle.outside.specs.Faults.{next_count, Rose}
use Rattle.outside.specs.Shelf.{TellsMissing}
use Rattle.outside.specs.Memory.{MemoryFiles, shelf_state}

-- the part of `FetchLeaves` that is about the count, where the fetch failed
abbrev pub FailureCounts : MemoryFiles → List ℕ → ℕ → Type 0
FailureCounts shelf name faults = (TellsMissing (shelf_state shelf) name × (faults ≡ shelf.faults)) ⊎ (¬ (TellsMissing (shelf_state shelf) name) × Rose shelf.faults faults)

pub missing_counts : (shelf : MemoryFiles) (name : List ℕ) (faults : ℕ) → None ≡ lookup name shelf.files → faults ≡ shelf.faults → FailureCounts shelf name faults
missing_counts shelf name faults missing same = inl (rw (sym missing) refl, same)

pub found_counts : (shelf : MemoryFiles) (name bytes : List ℕ) (faults : ℕ) → Some bytes ≡ lookup name shelf.files → faults ≡ next_count shelf.faults → FailureCounts shelf name faults
found_counts shelf name bytes faults found rose = inr (rw (sym found) (λ e. cc), omega arith)
