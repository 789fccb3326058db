-- Files by name, and what fetching one leaves.
use Rattle.std.specs.Prelude.{◌≡◌, ℕ, ◌<◌, ◌≤◌, ◌⊎◌, Bool, true, false, List, [], length, Option, Some, None, IfSome, IsSomeAnd}
use Rattle.plain_text.specs.Lookup.{Named, lookup}
use Rattle.outside.specs.Faults.{Rose}
use Rattle.outside.specs.declared.shelf.Fetch.{Fetch}
use Rattle.outside.specs.declared.shelf.Fetch.TheVariants.{Whole, TooLong, Failed, NoMemory}

-- what a shelf holds: files by name, of two with one name the first counts; and whether any other name reads
-- as an empty file
pub record ShelfFiles : Type 0 where
  pub files : Named (List ℕ)
  pub others_empty : Bool

-- a file where there is one, and otherwise what other names read as
abbrev pub or_other : Bool → Option (List ℕ) → Option (List ℕ)
or_other others_empty (Some bytes) = Some bytes
or_other true None = Some []
or_other false None = None

-- the file of a name, where it has one
abbrev pub file_of : ShelfFiles → List ℕ → Option (List ℕ)
file_of held name = or_other held.others_empty (lookup name held.files)

-- what contracts see of a shelf: its count of faults, and what it holds where it tells that
pub record ShelfState : Type 0 where
  pub faults : ℕ
  pub told : Option ShelfFiles

-- the shelf tells that the name has no file
abbrev pub TellsMissing : ShelfState → List ℕ → Type 0
TellsMissing shelf name = IsSomeAnd shelf.told (λ held. file_of held name ≡ None)

-- where the shelf tells what it holds, the file of the name is these bytes
abbrev pub AgreesWhole : ShelfState → List ℕ → List ℕ → Type 0
AgreesWhole shelf name bytes = IfSome shelf.told (λ held. file_of held name ≡ Some bytes)

-- where the shelf tells what it holds, the file of the name is longer than the limit
abbrev pub AgreesLonger : ShelfState → List ℕ → ℕ → Type 0
AgreesLonger shelf name limit = IfSome shelf.told (λ held. IsSomeAnd (file_of held name) (λ bytes. limit < length bytes))

-- what fetching a name up to a limit leaves in the buffer and in the shelf's count of faults, by its answer
abbrev pub FetchLeaves : ShelfState → List ℕ → ℕ → Fetch → List ℕ → ℕ → Type 0
FetchLeaves shelf name limit Whole bytes faults = (length bytes ≤ limit) × AgreesWhole shelf name bytes × (faults ≡ shelf.faults)
FetchLeaves shelf name limit TooLong bytes faults = (bytes ≡ []) × AgreesLonger shelf name limit × (faults ≡ shelf.faults)
FetchLeaves shelf name limit Failed bytes faults = (bytes ≡ []) × ((TellsMissing shelf name × (faults ≡ shelf.faults)) ⊎ (¬ (TellsMissing shelf name) × Rose shelf.faults faults))
FetchLeaves shelf name limit NoMemory bytes faults = (bytes ≡ []) × (faults ≡ shelf.faults)

-- One fetch of a name up to a limit, with this answer and these bytes, leads from one shelf to another. `fetches` says to
-- which shelves one may lead, and `state` what each of them shows.
pub record IsFetch {S : Type 0} (fetches : S → List ℕ → ℕ → Fetch → List ℕ → S → Type 0) (state : S → ShelfState) (old : S) (name : List ℕ) (limit : ℕ)
    (answer : Fetch) (bytes : List ℕ) (new : S) : Type 0 where
  pub leads : fetches old name limit answer bytes new
  pub leaves : FetchLeaves (state old) name limit answer bytes (state new).faults
  pub grows : (state old).faults ≤ (state new).faults
  pub told : (state new).told ≡ (state old).told
