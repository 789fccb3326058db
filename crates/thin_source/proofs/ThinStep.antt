-- One statement: what it needs, and the state that it leaves.
use Rattle.std.proofs.Common.{◌≡◌, ℕ, true, List, Option, Some, None, IsSome, refl, sym, subst}
use Rattle.std.proofs.Math.ListN.{set}
use Rattle.thin_source.specs.declared.interval.Interval.{Interval}
use Rattle.thin_source.specs.Interval.{is_within}
use Rattle.thin_source.specs.ThinTree.{Sum, assign, print, Declaration}
use Rattle.thin_source.specs.ThinRules.{pocket_range, range_of, sum_interval, is_some_within, is_lawful_statement}
use Rattle.thin_source.specs.ThinMeaning.{State, with_value, sum_value}
use Rattle.thin_source.specs.ThinVectors.{pocket_vector}
use Rattle.thin_source.specs.ThinStates.{LiesIn, IsStateOf, Holds, place_in}
use Rattle.thin_source.proofs.ThinSound.{LiesIn-within, LiesIn-sum_interval}
use Rattle.thin_source.proofs.ThinPlaces.{vectors_of-with_value, IsStateOf-with_value}

some_within : (a b : Option Interval) → is_some_within a b ≡ true → (i : Interval) × (j : Interval) × (a ≡ Some i) × (b ≡ Some j) × (is_within i j ≡ true)
some_within (Some i) (Some j) e = (i, j, refl, refl, e)
some_within (Some i) None e = cc
some_within None (Some j) e = cc
some_within None None e = cc

-- ---- a print
module _ (ds : List Declaration) (sum : Sum) (lawful : is_lawful_statement ds (print sum) ≡ true) where
  pub IsSome-print : IsSome (sum_interval ds sum)
  IsSome-print = let w = some_within (sum_interval ds sum) (Some pocket_range) lawful in rw w.2 refl

  -- its value is in range
  pub LiesIn-print : (state : State) → IsStateOf ds state → LiesIn pocket_range (sum_value state sum)
  LiesIn-print state fits =
      let w = some_within (sum_interval ds sum) (Some pocket_range) lawful in
      let same : pocket_range ≡ w.1 = cc w.3 in
      let within = subst (λ k. is_within w.0 k ≡ true) (sym same) w.4 in
      LiesIn-within w.0 pocket_range (sum_value state sum) within (LiesIn-sum_interval ds state sum w.0 fits w.2)

-- ---- an assignment
module _ (ds : List Declaration) (x : List ℕ) (sum : Sum) (lawful : is_lawful_statement ds (assign x sum) ≡ true) where
  pub IsSome-assign : IsSome (sum_interval ds sum)
  IsSome-assign = let w = some_within (sum_interval ds sum) (range_of ds x) lawful in rw w.2 refl

  pub IsSome-assigned : IsSome (range_of ds x)
  IsSome-assigned = let w = some_within (sum_interval ds sum) (range_of ds x) lawful in rw w.3 refl

  IsStateOf-assign : (state : State) → IsStateOf ds state → IsStateOf ds (with_value state x (sum_value state sum))
  IsStateOf-assign state fits =
      let w = some_within (sum_interval ds sum) (range_of ds x) lawful in
      IsStateOf-with_value ds state x w.1 (sum_value state sum) fits w.3
      (LiesIn-within w.0 w.1 (sum_value state sum) w.4 (LiesIn-sum_interval ds state sum w.0 fits w.2))

  -- storing its vector at the variable's place leaves the state after it
  pub Holds-assign : (variables : List (List ℕ)) (state : State) → Holds ds variables state → Holds ds (set variables (place_in ds x) (pocket_vector (sum_value state sum))) (with_value state x (sum_value state sum))
  Holds-assign variables state holds = record {
    fits = IsStateOf-assign state holds.fits;
    vectors = rw holds.vectors (sym (vectors_of-with_value ds state x (sum_value state sum) holds.fits));
  }
