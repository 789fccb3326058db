-- The book that the entries of `Faults` are.
use Rattle.std.specs.Prelude.{◌≡◌, ℕ, length, Bool, true, false, List, slice_index_or, Option, None, Some, All}
use Rattle.std.specs.FinMap.{empty, from_entries}
use Rattle.std.specs.HashMap.{HashMap, keys}
use Rattle.fault_book.specs.Book.{Book}

-- the book of the entries, in whatever order they are kept
abbrev pub book_of_entries : {S : Type 0} → Option (HashMap (ℕ × ℕ) ℕ S) → Book
book_of_entries None = empty
book_of_entries (Some entries) = from_entries entries.entries

-- each entry is of a channel whose flag is set
abbrev pub AreNamed : {S : Type 0} → List Bool → Option (HashMap (ℕ × ℕ) ℕ S) → Type 0
AreNamed named None = Unit {0}
AreNamed named (Some entries) = All (λ answer. slice_index_or named answer.0 false ≡ true) (keys entries)

-- there is a flag for each of the 12 channels that a set may have
pub record IsConsistent {S : Type 0} (named : List Bool) (entries : Option (HashMap (ℕ × ℕ) ℕ S)) : Type 0 where
  pub twelve : length named ≡ 12
  pub flags : AreNamed named entries
