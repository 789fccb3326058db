-- The law of resolved trees.
use Rattle.std.specs.Prelude.{◌≡◌, ℤ, List, []}
use Rattle.moduli_sets.specs.declared.set_name.SetName.{SetName}
use Rattle.name_check.specs.Names.{name_faults}
use Rattle.range_inference.specs.Bound.{bound_of}
use Rattle.range_inference.specs.Demands.{too_wide}
use Rattle.source_tree.specs.Meaning.{meaning}
use Rattle.source_tree.specs.declared.declaration.Program.{Program}
use Rattle.resolved_tree.specs.Meaning.{meaning_of}
use Rattle.resolved_tree.specs.Resolution.{resolved_of}

-- Where no rule of names is broken and nothing is too wide for a set, the resolved tree means what the source means.
abbrev pub ResolvedMeansTheSame : Type 0
ResolvedMeansTheSame =
    (program : Program) (set : SetName) (input : List ℤ)
    → name_faults program ≡ []
    → too_wide (bound_of set) program ≡ []
    → meaning_of (resolved_of program) input ≡ meaning program input
