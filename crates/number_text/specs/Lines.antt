-- Lines of bytes, and integers as lines.
use Rattle.std.specs.Prelude.{ℕ, ℤ, List, [], ◌∷◌, ◌++◌, map}
use Rattle.std.specs.Fmt.{signed_decimal}

-- the most bytes of a line that is built of words and numbers
abbrev pub room : ℕ
room = 320

-- a line of bytes
abbrev pub line : List ℕ → List ℕ
line bytes = bytes ++ 10 ∷ []

-- one line for each integer
abbrev pub print_lines : List ℤ → List (List ℕ)
print_lines prints = map (λ z. line (signed_decimal z)) prints
