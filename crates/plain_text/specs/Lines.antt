-- Lines of a text of bytes.
use Rattle.std.specs.Prelude.{ℕ, ◌+◌, ◌==◌, List, take, count_by}

-- how many LF bytes there are
abbrev pub line_feeds : List ℕ → ℕ
line_feeds bytes = count_by (λ b. b == 10) bytes

-- the line of a place: lines are numbered from 1 by the LF bytes before them
abbrev pub line_at : List ℕ → ℕ → ℕ
line_at bytes place = 1 + line_feeds (take place bytes)
