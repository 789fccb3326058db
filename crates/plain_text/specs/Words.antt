-- Words of a text of bytes, parted by a set of bytes.
use Rattle.std.specs.Prelude.{ℕ, ◌+◌, ◌==◌, Bool, false, not, ◌&&◌, List, [], ◌∷◌, take_while, if◌then◌else◌}
use Rattle.std.specs.List.{list_any}

-- a word, and the place of its first byte in the text
pub record WordAt : Type 0 where
  pub place : ℕ
  pub bytes : List ℕ

-- space, tab, CR and LF; VT, FF and NUL are none of them
abbrev pub white_space : List ℕ
white_space = 32 ∷ 9 ∷ 13 ∷ 10 ∷ []

-- whether a byte is one of those that part words
abbrev pub is_separator : List ℕ → ℕ → Bool
is_separator separators b = list_any (λ s. s == b) separators

-- the bytes up to the first that parts words
abbrev pub word_prefix : List ℕ → List ℕ → List ℕ
word_prefix separators bytes = take_while (λ b. not (is_separator separators b)) bytes

-- The words that begin in bytes, which stand in a text from a place on. A word begins at each byte that parts none and
-- doesn't stand `within` a word, right after another byte of it; it goes on up to the next byte that parts words.
abbrev pub words_from : List ℕ → Bool → ℕ → List ℕ → List WordAt
words_from separators within place [] = []
words_from separators within place (b ∷ bytes) =
    let in_word = not (is_separator separators b) in
    let rest = words_from separators in_word (place + 1) bytes in
    if in_word && not within then (record { place = place; bytes = word_prefix separators (b ∷ bytes) } ∷ rest) else rest

-- the words of a text, in order
abbrev pub words_of : List ℕ → List ℕ → List WordAt
words_of separators text = words_from separators false 0 text
