-- Variables by name and by place.
use Rattle.std.proofs.Common.{◌≡◌, ℕ, ◌<◌, suc, ℤ, Bool, true, false, List, [], ◌∷◌, length, get_or, Some, IsSome, if◌then◌else◌, refl, subst, ap, arith}
use Rattle.std.proofs.Math.ListN.{set}
use Rattle.std.specs.Str.{bytes_eq}
use Rattle.thin_source.specs.declared.interval.Interval.{Interval}
use Rattle.thin_source.specs.ThinTree.{Declaration}
use Rattle.thin_source.specs.ThinRules.{declared_interval, range_of}
use Rattle.thin_source.specs.ThinMeaning.{State, value_in, with_value}
use Rattle.thin_source.specs.ThinVectors.{pocket_vector, vectors_of}
use Rattle.thin_source.specs.ThinStates.{LiesIn, IsStateOf, Holds, place_in}

-- a declared name has its place among the variables
pub place_in-below : (ds : List Declaration) (state : State) (x : List ℕ) → IsStateOf ds state → IsSome (range_of ds x) → place_in ds x < length (vectors_of state)
place_in-below [] state x fits found = cc
place_in-below (d ∷ ds) [] x fits found = absurd fits
place_in-below (d ∷ ds) (v ∷ state) x (same, here, rest) found =
    elim (bytes_eq d.name x) as (λ (b : Bool). IsSome (if b then Some (declared_interval d) else range_of ds x) → (if b then 0 else suc (place_in ds x)) < suc (length (vectors_of state))) [
      | true ↦ λ _. omega arith
      | false ↦ λ later. let below = place_in-below ds state x rest later in omega arith
    ] found

-- and there its value
pub vectors_of-place : (ds : List Declaration) (state : State) (x other : List ℕ) → IsStateOf ds state → IsSome (range_of ds x) → get_or (vectors_of state) (place_in ds x) other ≡ pocket_vector (value_in state x)
vectors_of-place [] state x other fits found = cc
vectors_of-place (d ∷ ds) [] x other fits found = absurd fits
vectors_of-place (d ∷ ds) (v ∷ state) x other (same, here, rest) found =
    rw same (elim (bytes_eq d.name x) as (λ (b : Bool). IsSome (if b then Some (declared_interval d) else range_of ds x) → get_or (pocket_vector v.1 ∷ vectors_of state) (if b then 0 else suc (place_in ds x)) other ≡ pocket_vector (if b then v.1 else value_in state x)) [
      | true ↦ λ _. refl
      | false ↦ λ later. vectors_of-place ds state x other rest later
    ] found)

-- an assignment replaces what stands there
pub vectors_of-with_value : (ds : List Declaration) (state : State) (x : List ℕ) (value : ℤ) → IsStateOf ds state → vectors_of (with_value state x value) ≡ set (vectors_of state) (place_in ds x) (pocket_vector value)
vectors_of-with_value [] [] x value fits = refl
vectors_of-with_value [] (v ∷ state) x value fits = absurd fits
vectors_of-with_value (d ∷ ds) [] x value fits = absurd fits
vectors_of-with_value (d ∷ ds) (v ∷ state) x value (same, here, rest) =
    rw same (elim (bytes_eq d.name x) as (λ (b : Bool). vectors_of (if b then (d.name, value) ∷ state else (d.name, v.1) ∷ with_value state x value) ≡ set (pocket_vector v.1 ∷ vectors_of state) (if b then 0 else suc (place_in ds x)) (pocket_vector value)) [
      | true ↦ refl
      | false ↦ ap (λ vectors. pocket_vector v.1 ∷ vectors) (vectors_of-with_value ds state x value rest)
    ])

-- the same of variables that hold a state
pub Holds-below : (ds : List Declaration) (variables : List (List ℕ)) (state : State) (x : List ℕ) → Holds ds variables state → IsSome (range_of ds x) → place_in ds x < length variables
Holds-below ds variables state x held found = rw held.vectors (place_in-below ds state x held.fits found)

pub Holds-place : (ds : List Declaration) (variables : List (List ℕ)) (state : State) (x other : List ℕ) → Holds ds variables state → IsSome (range_of ds x) → get_or variables (place_in ds x) other ≡ pocket_vector (value_in state x)
Holds-place ds variables state x other held found = rw held.vectors (vectors_of-place ds state x other held.fits found)

-- a state stays one of the declarations where a value of its range is assigned
pub IsStateOf-with_value : (ds : List Declaration) (state : State) (x : List ℕ) (i : Interval) (value : ℤ) → IsStateOf ds state → range_of ds x ≡ Some i → LiesIn i value → IsStateOf ds (with_value state x value)
IsStateOf-with_value [] state x i value fits found lies = cc
IsStateOf-with_value (d ∷ ds) [] x i value fits found lies = absurd fits
IsStateOf-with_value (d ∷ ds) (v ∷ state) x i value (same, here, rest) found lies =
    rw same (elim (bytes_eq d.name x) as (λ (b : Bool). (if b then Some (declared_interval d) else range_of ds x) ≡ Some i → IsStateOf (d ∷ ds) (if b then (d.name, value) ∷ state else (d.name, v.1) ∷ with_value state x value)) [
      | true ↦ λ at. let own : i ≡ declared_interval d = cc in (refl, subst (λ k. LiesIn k value) own lies, rest)
      | false ↦ λ later. (refl, here, IsStateOf-with_value ds state x i value rest later lies)
    ] found)
