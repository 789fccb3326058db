-- The state at which a thin program starts.
use Rattle.std.proofs.Common.{◌≡◌, ℤ, ◌≤ℤ◌, Bool, true, false, ◌&&◌, List, [], ◌∷◌, refl, arith}
use Rattle.std.proofs.lemmas.Int.{ints}
use Rattle.std.specs.List.{list_all}
use Rattle.moduli_sets.specs.Set.{IsInRange}
use Rattle.moduli_sets.specs.Name.{set_of_name}
use Rattle.moduli_sets.specs.declared.set_name.SetName.TheVariants.{Pocket}
use Rattle.thin_source.specs.ThinTree.{Declaration}
use Rattle.thin_source.specs.ThinRules.{pocket_range, declared_interval, is_range}
use Rattle.thin_source.specs.ThinMeaning.{nearest_to_zero, start_of}
use Rattle.thin_source.specs.ThinStates.{LiesIn, IsStateOf}
use Rattle.thin_source.proofs.ThinSound.{within_parts, LiesIn-within}

pub both_true_left : (a b : Bool) → (a && b) ≡ true → a ≡ true
both_true_left true b e = cc
both_true_left false b e = cc

pub both_true_right : (a b : Bool) → (a && b) ≡ true → b ≡ true
both_true_right true b e = e
both_true_right false b e = cc

pub IsInRange-pocket : (x : ℤ) → LiesIn pocket_range x → IsInRange (set_of_name Pocket) x
IsInRange-pocket x lies = record { low = lies.low; high = lies.high }

nearest-low : (low high : ℤ) → low ≤ℤ high → low ≤ℤ nearest_to_zero low high
nearest-low low high h = grind (arith, ints)

nearest-high : (low high : ℤ) → low ≤ℤ high → nearest_to_zero low high ≤ℤ high
nearest-high low high h = grind (arith, ints)

-- the number of a range that is nearest to 0 is of that range, and so in range
pub LiesIn-nearest : (d : Declaration) → is_range d ≡ true → LiesIn (declared_interval d) (nearest_to_zero d.low d.high)
LiesIn-nearest d e =
    let parts = within_parts (declared_interval d) pocket_range e in
    record { low = nearest-low d.low d.high parts.1; high = nearest-high d.low d.high parts.1 }

pub IsInRange-nearest : (d : Declaration) → is_range d ≡ true → IsInRange (set_of_name Pocket) (nearest_to_zero d.low d.high)
IsInRange-nearest d e =
    IsInRange-pocket (nearest_to_zero d.low d.high) (LiesIn-within (declared_interval d) pocket_range (nearest_to_zero d.low d.high) e (LiesIn-nearest d e))

-- where each declaration has a range, the program starts in a state of the declarations
pub IsStateOf-start : (ds : List Declaration) → list_all is_range ds ≡ true → IsStateOf ds (start_of ds)
IsStateOf-start [] e = tt
IsStateOf-start (d ∷ ds) e =
    (refl, LiesIn-nearest d (both_true_left (is_range d) (list_all is_range ds) e), IsStateOf-start ds (both_true_right (is_range d) (list_all is_range ds) e))
