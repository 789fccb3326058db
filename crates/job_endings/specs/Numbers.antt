-- Numbers as a line shows them.
use Rattle.std.specs.Prelude.{ℕ, List, map}
use Rattle.std.specs.List.{join_with_byte}
use Rattle.std.specs.Fmt.{decimal}

-- in decimal, one space apart
abbrev pub numbers_text : List ℕ → List ℕ
numbers_text numbers = join_with_byte 32 (map decimal numbers)
