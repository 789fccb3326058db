-- Things by name. A name is its bytes.
use Rattle.std.specs.Prelude.{ℕ, List, [], ◌∷◌, Option, Some, None, if◌then◌else◌}
use Rattle.std.specs.Str.{bytes_eq}

-- things, each with its name; of two with one name the first is meant
abbrev pub Named : Type 0 → Type 0
Named A = List (List ℕ × A)

-- the thing of a name, where there is one
abbrev pub lookup : {A : Type 0} → List ℕ → Named A → Option A
lookup name [] = None
lookup name (entry ∷ entries) = if bytes_eq entry.0 name then Some entry.1 else lookup name entries
