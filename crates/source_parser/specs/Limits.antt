-- The limits of nesting.
use Rattle.std.specs.Prelude.{ℕ}

-- how many of `if`, `for` and `while` may be open at once
abbrev pub depth_limit : ℕ
depth_limit = 64

-- how many of `+`, `-`, `*`, `div`, `mod`, `(` and `[` an outermost expression may have
abbrev pub weight_limit : ℕ
weight_limit = 200
