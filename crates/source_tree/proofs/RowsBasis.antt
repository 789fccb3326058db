-- What worked rows are written with.
use Rattle.std.specs.Prelude.{ℕ, ℤ, List, Option, ⊤}
use Rattle.moduli_sets.specs.declared.kind.Kind.{Kind}
use Rattle.source_tree.specs.Run.{Run, printed, trap_of}
use Rattle.source_tree.specs.declared.name.Name.{Name}
use Rattle.source_tree.specs.declared.name.Range.{Range}

-- what is printed, and the trap that ends the run, where one does
abbrev pub outcome : Run ⊤ → List ℤ × Option (Kind × ℕ)
outcome run = (printed run, trap_of run)

-- the integers from low to high
abbrev pub from_to : ℤ → ℤ → Range
from_to low high = record { low = low; high = high }

-- a name at a line
abbrev pub named : List ℕ → ℕ → Name
named bytes line = record { bytes = bytes; line = line }
