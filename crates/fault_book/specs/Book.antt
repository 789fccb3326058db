-- Faults of channels: wrong answers, told by the channel and the number of the answer.
use Rattle.std.specs.Prelude.{ℕ, ◌==◌, Bool, Option, count_by}
use Rattle.std.specs.declared.cmp.Ordering.{Ordering}
use Rattle.std.specs.Ordering.{nat_cmp, ordering_then}
use Rattle.std.specs.List.{list_any, range_with_len}
use Rattle.std.specs.FinMap as map
use Rattle.std.specs.Coded.{Coded, coded×, coded_ℕ}

-- by the channel, and then by the number of the answer
abbrev pub answer_cmp : ℕ × ℕ → ℕ × ℕ → Ordering
answer_cmp a b = ordering_then (nat_cmp a.0 b.0) (nat_cmp a.1 b.1)

-- a finite map from the channel and the number of an answer to the value that stands in its place
abbrev pub Book : Type 0
Book = map.FinMap answer_cmp ℕ

abbrev pub coded_book : Coded Book
coded_book = map.code (coded× coded_ℕ coded_ℕ) coded_ℕ

-- the value that stands in the place of an answer, where there is one
abbrev pub fault_at : Book → ℕ → ℕ → Option ℕ
fault_at book channel number = map.get book (channel, number)

-- whether the book has a fault of the channel
abbrev pub is_faulty : Book → ℕ → Bool
is_faulty book channel = list_any (λ answer. answer.0 == channel) (map.keys book)

-- how many different channels it has faults of; a set has 12 channels at the most
abbrev pub faulty_channels : Book → ℕ
faulty_channels book = count_by (is_faulty book) (range_with_len 0 12)
