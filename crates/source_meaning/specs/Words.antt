-- Integers of 128 bits.
use Rattle.std.specs.Prelude.{ℤ, Option, Some, None, if◌then◌else◌}
use Rattle.resolved_tree.specs.Slots.{is_word}

-- an integer, where 128 bits hold it
abbrev pub word_of : ℤ → Option ℤ
word_of x = if is_word x then Some x else None
