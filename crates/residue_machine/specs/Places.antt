-- Return places that are held and dropped.
use Rattle.std.specs.Prelude.{ℕ, ◌+◌, Bool, List, ◌∷◌, if◌then◌else◌}
use Rattle.machine_table.specs.Control.{Control}

-- control with other return places
abbrev pub holding : List ℕ → Control → Control
holding places control = record control { places = places }

-- the place of the next instruction is held, or not
abbrev pub held_if : Bool → Control → Control
held_if held control = if held then holding ((control.counter + 1) ∷ control.places) control else control
