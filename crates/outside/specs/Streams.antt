-- What the loops over a reader and a writer leave, where their bytes are known.
use Rattle.std.specs.Prelude.{◌≡◌, ℕ, ◌+◌, ◌<◌, ◌≤◌, List, [], ◌++◌, length, take, Option, Some, None, Result, Ok, IsErr, IsOkAnd, IfSome, MatchResult}
use Rattle.std.specs.Io.KnownBytes.{Appends, Consumes, IsAtEnd}
use Rattle.std.specs.IoError.{error_kind}
use Rattle.std.specs.declared.io.Error.{Error}
use Rattle.std.specs.declared.io.ErrorKind.{ErrorKind}
use Rattle.std.specs.declared.io.ErrorKind.TheVariants.{OutOfMemory}
use Rattle.outside.specs.declared.shelf.Fetch.{Fetch}
use Rattle.outside.specs.declared.shelf.Fetch.TheVariants.{Whole, TooLong, Failed as FetchFailed, NoMemory}
use Rattle.outside.specs.declared.sink.Put.{Put}
use Rattle.outside.specs.declared.sink.Put.TheVariants.{Done, Failed as PutFailed}

-- what filling an empty buffer of this capacity from a reader leaves, by its answer: never more than one byte
-- past the limit
abbrev pub FillLeaves : Option (List ℕ) → Option (List ℕ) → ℕ → ℕ → Fetch → List ℕ → Type 0
FillLeaves old new limit capacity Whole bytes = (length bytes ≤ limit) × Consumes old new bytes × IsAtEnd new
FillLeaves old new limit capacity TooLong bytes = (length bytes ≡ limit + 1) × Consumes old new bytes
FillLeaves old new limit capacity FetchFailed bytes = (length bytes ≤ limit) × Consumes old new bytes
FillLeaves old new limit capacity NoMemory bytes = (lost : List ℕ) × (length bytes + length lost ≤ limit + 1) × (capacity < length bytes + length lost) × Consumes old new (bytes ++ lost)

-- what one read makes of a fetch under way, given what it answered, the buffer that it read into, and the
-- capacity and the bytes so far: 0 bytes are the end of the file, and at None the fetch goes on
abbrev pub ReadTaken : Result ℕ Error → List ℕ → ℕ → List ℕ → Option Fetch → List ℕ → Type 0
ReadTaken got chunk capacity old None new = IsOkAnd got (λ count. (0 < count) × (new ≡ old ++ take count chunk))
ReadTaken got chunk capacity old (Some Whole) new = (got ≡ Ok 0) × (new ≡ old)
ReadTaken got chunk capacity old (Some TooLong) new = ⊥
ReadTaken got chunk capacity old (Some FetchFailed) new = IsErr got × (new ≡ old)
ReadTaken got chunk capacity old (Some NoMemory) new = IsOkAnd got (λ count. (0 < count) × (capacity < length old + count)) × (new ≡ old)

-- what reading the bytes that are left up to a limit leaves in a buffer of this capacity, by its answer
abbrev pub ReadLeaves : Option (List ℕ) → ℕ → ℕ → Fetch → List ℕ → Type 0
ReadLeaves left limit capacity Whole bytes = (length bytes ≤ limit) × IfSome left (λ all. bytes ≡ all)
ReadLeaves left limit capacity TooLong bytes = (bytes ≡ []) × IfSome left (λ all. limit < length all)
ReadLeaves left limit capacity FetchFailed bytes = bytes ≡ []
ReadLeaves left limit capacity NoMemory bytes = (bytes ≡ []) × (capacity ≤ limit) × IfSome left (λ all. capacity < length all)

-- the answer where a file can't be opened
abbrev pub answer_of_kind : ErrorKind → Fetch
answer_of_kind OutOfMemory = NoMemory
answer_of_kind _ = FetchFailed

-- what a fetch leaves in a buffer of this capacity, given what opening the file gave
abbrev pub OpenedLeaves : {R : Type 0} → (R → Option (List ℕ)) → Result R Error → ℕ → ℕ → Fetch → List ℕ → Type 0
OpenedLeaves remaining opened limit capacity answer bytes = MatchResult opened (λ reader. ReadLeaves (remaining reader) limit capacity answer bytes) (λ error. (answer ≡ answer_of_kind (error_kind error)) × (bytes ≡ []))

-- what writing bytes leaves in a writer, by its answer
abbrev pub WriteLeaves : Option (List ℕ) → Option (List ℕ) → List ℕ → Put → Type 0
WriteLeaves old new bytes Done = Appends old new bytes
WriteLeaves old new bytes PutFailed = (n : ℕ) × (n < length bytes) × Appends old new (take n bytes)
