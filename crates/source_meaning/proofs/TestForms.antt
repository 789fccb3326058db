-- The form of a condition: a visit, both sides, and whether it holds.
use Rattle.std.proofs.Common.{◌≡◌, ℤ, Bool, Result, Ok, Err, refl, subst}
use Rattle.std.specs.Prelude.{⊤}
use Rattle.source_tree.specs.State.{State}
use Rattle.source_tree.specs.Run.{Run, visit, happens, returns, and_then}
use Rattle.source_tree.specs.Statement.{nothing_done, holds}
use Rattle.resolved_tree.specs.Meaning.{value_of, tested}
use Rattle.resolved_tree.specs.declared.tree.Test.{Test}
use Rattle.source_meaning.specs.declared.machine.Machine.{Machine}
use Rattle.source_meaning.specs.declared.machine.Stop.{Stop}
use Rattle.source_meaning.specs.Follows.{state_of, Computes}
use Rattle.source_meaning.proofs.Following.{same_sizes, computes_then, computes_stops}
use Rattle.source_meaning.proofs.ValueForms.{visited, not_visited}

both : Test → State → Run Bool
both test s = and_then (value_of test.left s) (λ x after. and_then (value_of test.right after) (λ y. returns (holds test.comparison x y)))

module _ (test : Test) (w : Machine) where
  pub test_not_begun : (u : Machine) (e : Stop) → Computes (λ n. happens visit (nothing_done (state_of w))) w (Err e) u → Computes (λ n. tested test (state_of w)) w (Err e) u
  unfolding both
  test_not_begun u e m = not_visited (λ n. both test) w u e m

  module _ (m : Machine) (t : ⊤) (began : Computes (λ n. happens visit (nothing_done (state_of w))) w (Ok t) m) where
    pub left_side_stops : (u : Machine) (e : Stop) → Computes (λ n. value_of test.left (state_of m)) m (Err e) u → Computes (λ n. tested test (state_of w)) w (Err e) u
    unfolding both
    left_side_stops u e f =
        visited (λ n. both test) w m u t (Err e) began
        (computes_stops (λ n. value_of test.left (state_of m)) (λ n x after. and_then (value_of test.right after) (λ y. returns (holds test.comparison x y))) m u e f)

    sides : (u q : Machine) (x : ℤ) (o : Result Bool Stop) → Computes (λ n. value_of test.left (state_of m)) m (Ok x) u
        → Computes (λ n. and_then (value_of test.right (state_of u)) (λ y. returns (holds test.comparison x y))) u o q → Computes (λ n. tested test (state_of w)) w o q
    unfolding both
    sides u q x o f g =
        visited (λ n. both test) w m q t o began
        (computes_then (λ n. value_of test.left (state_of m)) (λ n x after. and_then (value_of test.right after) (λ y. returns (holds test.comparison x y))) m u q x o f g)

    pub right_side_stops : (u q : Machine) (x : ℤ) (e : Stop) → Computes (λ n. value_of test.left (state_of m)) m (Ok x) u → Computes (λ n. value_of test.right (state_of u)) u (Err e) q
        → Computes (λ n. tested test (state_of w)) w (Err e) q
    right_side_stops u q x e f g =
        sides u q x (Err e) f (computes_stops (λ n. value_of test.right (state_of u)) (λ n y. returns (holds test.comparison x y)) u q e g)

    pub test_goes : (u q : Machine) (x y : ℤ) (b : Bool) → Computes (λ n. value_of test.left (state_of m)) m (Ok x) u → Computes (λ n. value_of test.right (state_of u)) u (Ok y) q
        → b ≡ holds test.comparison x y → Computes (λ n. tested test (state_of w)) w (Ok b) q
    test_goes u q x y b f g h =
        sides u q x (Ok b) f
        (computes_then (λ n. value_of test.right (state_of u)) (λ n y. returns (holds test.comparison x y)) u q q y (Ok b) g
        (subst (λ c. Computes (λ n. returns c (state_of q)) q (Ok b) q) h (record { sizes = same_sizes q; silent = λ fits. refl; ends = λ fits. refl })))
