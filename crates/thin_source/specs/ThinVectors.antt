-- The variables of a thin source as vectors.
use Rattle.std.specs.Prelude.{ℕ, ℤ, List, map}
use Rattle.moduli_sets.specs.declared.set_name.SetName.TheVariants.{Pocket}
use Rattle.moduli_sets.specs.Name.{set_of_name}
use Rattle.moduli_sets.specs.Vector.{vector_of}
use Rattle.thin_source.specs.ThinMeaning.{State}

-- the vector of an integer on `pocket`
abbrev pub pocket_vector : ℤ → List ℕ
pocket_vector x = vector_of (set_of_name Pocket).moduli x

-- the vector of each variable, in order
abbrev pub vectors_of : State → List (List ℕ)
vectors_of state = map (λ variable. pocket_vector variable.1) state
