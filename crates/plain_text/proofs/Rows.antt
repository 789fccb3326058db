-- Worked rows: how texts are parted into words.
use Rattle.std.specs.Prelude.{◌≡◌, refl, [], ◌∷◌, codes}
use Rattle.plain_text.specs.Words.{white_space, words_of}

-- a blank, `12`, a tab, `-3`, CR and LF, `4`
words : words_of white_space (32 ∷ 49 ∷ 50 ∷ 9 ∷ 45 ∷ 51 ∷ 13 ∷ 10 ∷ 52 ∷ [])
    ≡ record { place = 1; bytes = codes "12" } ∷ record { place = 4; bytes = codes "-3" } ∷ record { place = 8; bytes = codes "4" } ∷ []
words = refl

-- VT, FF and NUL part nothing
one_word : words_of white_space (49 ∷ 11 ∷ 12 ∷ 0 ∷ 50 ∷ []) ≡ record { place = 0; bytes = 49 ∷ 11 ∷ 12 ∷ 0 ∷ 50 ∷ [] } ∷ []
one_word = refl

no_word : words_of white_space (32 ∷ 13 ∷ []) ≡ []
no_word = refl

-- CR is a byte of a word where blanks alone part words
other_separators : words_of (codes " ") (49 ∷ 13 ∷ 32 ∷ 50 ∷ []) ≡ record { place = 0; bytes = 49 ∷ 13 ∷ [] } ∷ record { place = 3; bytes = codes "2" } ∷ []
other_separators = refl
