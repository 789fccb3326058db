-- Ranges by name.
use Rattle.std.specs.Prelude.{ℕ, List, Option, Some, None}
use Rattle.plain_text.specs.Lookup.{Named, lookup}
use Rattle.name_table.specs.Entries.{Mirrors}
use Rattle.source_tree.specs.Scope.{Scope, empty_range, range_of}
use Rattle.source_tree.specs.declared.name.Range.{Range}

-- a name without a range has the empty one
abbrev pub range_or_empty : Option Range → Range
range_or_empty (Some range) = range
range_or_empty None = empty_range

unfoldable pub range_in : Named Range → List ℕ → Range
range_in entries name = range_or_empty (lookup name entries)

-- a table has the range of each name of a scope; a procedure has the empty one
abbrev pub HasRanges : Named Range → Scope → Type 0
HasRanges entries scope = Mirrors (λ d. range_of (Some d)) scope entries
