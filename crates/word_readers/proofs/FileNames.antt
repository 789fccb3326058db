-- The whole of a word is a part of it.
use Rattle.std.proofs.Common.{ℕ, ◌<◌, zero, suc, List, [], ◌∷◌, length, map, String, IsCharBoundary, slice_index_or, string_bytes, arith}
use Rattle.std.proofs.lemmas.List.{length-map}
use Rattle.std.proofs.lemmas.Str.{IsCharBoundary-start, IsUtf8-string_bytes}
use Rattle.word_readers.specs.Operands.{IsFileWord, whole_word}

at_start : {Z : Type 0} (words : List (String Z)) (word : ℕ) → IsCharBoundary (slice_index_or (map string_bytes words) word []) 0
at_start [] word = (omega arith, λ lt. absurd (omega arith))
at_start (w ∷ words) zero = IsCharBoundary-start (string_bytes w) (IsUtf8-string_bytes w)
at_start (w ∷ words) (suc word) = at_start words word

pub IsFileWord-whole_word : {Z : Type 0} (words : List (String Z)) (word : ℕ) → word < length words
    → IsFileWord (map string_bytes words) (whole_word word)
IsFileWord-whole_word words n some = record { word = omega (arith, length-map words string_bytes); skip = at_start words n }
