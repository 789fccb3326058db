-- Values by name, and one name more.
use Rattle.std.specs.Prelude.{◌≡◌, ℕ, List, [], ◌∷◌, ◌++◌, map, if◌then◌else◌}
use Rattle.std.specs.Global.{Vec}
use Rattle.std.specs.Option.{is_some, option_map}
use Rattle.plain_text.specs.Lookup.{Named, lookup}

-- A name with its value after the others. One that is there already keeps its value.
abbrev pub with_new : {A : Type 0} → Named A → List ℕ → A → Named A
with_new entries name value = if is_some (lookup name entries) then entries else (entries ++ (name, value) ∷ [])

-- ---- two lists by name
-- what the one has for a name, the other has for it by f; and where the one has none, the other has none
abbrev pub Mirrors : {A B : Type 0} → (A → B) → Named A → Named B → Type 0
Mirrors f entries others = (x : List ℕ) → option_map f (lookup x entries) ≡ lookup x others

-- the same entries, and more behind them
abbrev pub Extends : {A : Type 0} → Named A → Named A → Type 0
Extends {A} before after = (more : Named A) × (after ≡ before ++ more)

-- ---- as they are held
abbrev pub named : {A : Type 0} → List (Vec ℕ × A) → Named A
named entries = map (λ e. (e.0.items, e.1)) entries
