-- Worked rows: what texts of faults say, for a set of five channels.
use Rattle.std.specs.Prelude.{◌≡◌, refl, ℕ, List, [], ◌∷◌, ◌++◌, codes}
use Rattle.fault_book.specs.FaultText.{book_faults, entries_of}
use Rattle.fault_book.specs.declared.reading.BookFault.TheVariants.{BadLine, UnknownChannel, Twice}

-- a line with an LF, and one with a CR and an LF
abbrev ended : List ℕ → List ℕ
ended line = line ++ 10 ∷ []

abbrev returned : List ℕ → List ℕ
returned line = line ++ 13 ∷ 10 ∷ []

-- ---- without a fault
nothing : (book_faults 5 [] ≡ []) × (entries_of [] ≡ [])
nothing = (refl, refl)

one_entry : (book_faults 5 (codes "0 99 3") ≡ []) × (entries_of (codes "0 99 3") ≡ ((0, 99), 3) ∷ [])
one_entry = (refl, refl)

-- comments, blank lines and blanks between words count for nothing, and leading zeros too
abbrev with_gaps : List ℕ
with_gaps = ended (codes "# faults") ++ ended [] ++ ended (32 ∷ 9 ∷ []) ++ ended (9 ∷ codes "04  0000000000000000000000007" ++ 9 ∷ codes "9 ") ++ codes "#"

gaps : (book_faults 5 with_gaps ≡ []) × (entries_of with_gaps ≡ ((4, 7), 9) ∷ [])
gaps = (refl, refl)

-- one CR at the end of a line, the last one too, is none of it
abbrev with_returns : List ℕ
with_returns = returned (codes "0 1 2") ++ returned [] ++ returned (codes "#") ++ codes "1 1 2" ++ 13 ∷ []

returns : (book_faults 5 with_returns ≡ []) × (entries_of with_returns ≡ ((0, 1), 2) ∷ ((1, 1), 2) ∷ [])
returns = (refl, refl)

greatest : (book_faults 5 (codes "4 18446744073709551615 4294967295") ≡ []) × (entries_of (codes "4 18446744073709551615 4294967295") ≡ ((4, 18446744073709551615), 4294967295) ∷ [])
greatest = (refl, refl)

-- ---- bad lines
-- one CR of two is left, and is a byte of a word; so is one within a line
two_returns : book_faults 5 (codes "0 1 2" ++ 13 ∷ returned []) ≡ BadLine 1 ∷ []
two_returns = refl

lone_return : book_faults 5 (13 ∷ 13 ∷ []) ≡ BadLine 1 ∷ []
lone_return = refl

return_within : book_faults 5 (codes "0" ++ 13 ∷ codes "1 2") ≡ BadLine 1 ∷ []
return_within = refl

-- a comment begins with its first byte
comment_after_a_blank : book_faults 5 (codes " # x") ≡ BadLine 1 ∷ []
comment_after_a_blank = refl

comment_after_an_entry : book_faults 5 (codes "0 1 2 # x") ≡ BadLine 1 ∷ []
comment_after_an_entry = refl

two_words : book_faults 5 (codes "0 1") ≡ BadLine 1 ∷ []
two_words = refl

four_words : book_faults 5 (codes "0 1 2 3") ≡ BadLine 1 ∷ []
four_words = refl

minus : book_faults 5 (codes "0 -1 2") ≡ BadLine 1 ∷ []
minus = refl

channel_past_the_limit : book_faults 5 (codes "4294967296 0 0") ≡ BadLine 1 ∷ []
channel_past_the_limit = refl

number_past_the_limit : book_faults 5 (codes "0 18446744073709551616 0") ≡ BadLine 1 ∷ []
number_past_the_limit = refl

value_past_the_limit : book_faults 5 (codes "0 0 4294967296") ≡ BadLine 1 ∷ []
value_past_the_limit = refl

-- ---- the other rules
twice : book_faults 5 (ended (codes "0 1 2") ++ codes "0 1 2") ≡ Twice 2 ∷ []
twice = refl

-- another value makes no difference, nor do lines between
twice_after_others : book_faults 5 (ended (codes "0 1 2") ++ ended (codes "1 0 2") ++ ended (codes "#") ++ codes "00 01 3") ≡ Twice 4 ∷ []
twice_after_others = refl

unknown : book_faults 5 (codes "5 0 0") ≡ UnknownChannel 1 ∷ []
unknown = refl

greatest_unknown : book_faults 5 (codes "4294967295 0 0") ≡ UnknownChannel 1 ∷ []
greatest_unknown = refl

-- a line that is unknown and twice is unknown
unknown_and_twice : book_faults 5 (ended (codes "5 0 0") ++ codes "5 0 0") ≡ UnknownChannel 1 ∷ UnknownChannel 2 ∷ []
unknown_and_twice = refl

-- each line has its fault, in order; the first is the one of a refusal
bad_before_unknown : book_faults 5 (ended [] ++ ended (codes "x") ++ codes "5 0 0") ≡ BadLine 2 ∷ UnknownChannel 3 ∷ []
bad_before_unknown = refl
