-- What a decoder tells of columns that are wrong in the channels that a book names, and in no other.
use Rattle.std.specs.Prelude.{◌≡◌, ℕ, ◌<◌, ◌==◌, ℤ, false, ◌&&◌, not, List, length, slice_index, count_by, Option, None, Some, ◌⊎◌}
use Rattle.std.specs.List.{range_with_len}
use Rattle.number_theory.specs.Residue.{AreResidues}
use Rattle.moduli_sets.specs.Set.{ModuliSet, IsInRange}
use Rattle.moduli_sets.specs.Vector.{vector_of}
use Rattle.fault_book.specs.Book.{Book, faulty_channels, is_faulty}
use Rattle.shown_run.specs.Runs.{Decoding}

-- the column has the residues of x in each channel that the book doesn't name
abbrev pub IsRightUnnamed : ModuliSet → Book → List ℕ → ℤ → Type 0
IsRightUnnamed set book column x =
    (channel : ℕ) → channel < length set.moduli → is_faulty book channel ≡ false
    → slice_index column channel ≡ slice_index (vector_of set.moduli x) channel

-- a column of residues that is right in each channel that the book doesn't name, of an integer in range
pub record IsColumnOf (set : ModuliSet) (book : Book) (column : List ℕ) (x : ℤ) : Type 0 where
  pub residues : AreResidues set.moduli column
  pub in_range : IsInRange set x
  pub right : IsRightUnnamed set book column x

-- the decoder tells the integer of each such column
abbrev pub TellsEach : Decoding → ModuliSet → Book → Type 0
TellsEach decode set book = (column : List ℕ) (x : ℤ) → IsColumnOf set book column x → decode column ≡ Some x

-- it tells that integer, or that there is none: never another
abbrev pub TellsNoOther : Decoding → ModuliSet → Book → Type 0
TellsNoOther decode set book = (column : List ℕ) (x : ℤ) → IsColumnOf set book column x → (decode column ≡ None) ⊎ (decode column ≡ Some x)

-- how many channels the book names, an erased one aside
abbrev pub named_channels : Option ℕ → Book → ℕ
named_channels None book = faulty_channels book
named_channels (Some gone) book = count_by (λ channel. is_faulty book channel && not (gone == channel)) (range_with_len 0 12)
