-- A turn of a `while`, and those that are left.
use Rattle.std.proofs.Common.{◌≡◌, ℕ, zero, suc, Bool, true, false, List, Result, Ok, Err, refl, sym, subst}
use Rattle.std.specs.Prelude.{if◌then◌else◌, ⊤}
use Rattle.moduli_sets.specs.declared.kind.Kind.TheVariants.{Turns}
use Rattle.outside.specs.Sink.{SinkState}
use Rattle.source_tree.specs.State.{State}
use Rattle.source_tree.specs.Run.{Run, visit, happens, traps, and_then}
use Rattle.source_tree.specs.Expression.{Calls}
use Rattle.source_tree.specs.Statement.{nothing_done}
use Rattle.resolved_tree.specs.Meaning.{tested, while_turns, steps_of}
use Rattle.resolved_tree.specs.declared.tree.Step.{Step}
use Rattle.resolved_tree.specs.declared.tree.Test.{Test}
use Rattle.source_meaning.specs.declared.machine.Machine.{Machine}
use Rattle.source_meaning.specs.declared.machine.Stop.{Stop}
use Rattle.source_meaning.specs.declared.machine.Stop.TheVariants.{Trap}
use Rattle.source_meaning.specs.Follows.{state_of, Computes, Follows}
use Rattle.source_meaning.proofs.Following.{same_sizes, quietly, follows_then, follows_stops}

module _ {K : Type 0} (puts : K → List ℕ → K → Type 0) (state : K → SinkState) (calls : ℕ → Calls) (test : Test) (line : ℕ) (body : List Step) (w : Machine) (old : K) where
  -- what comes after the test, by the turns that are left
  after_test : ℕ → ℕ → Bool → State → Run ⊤
  after_test zero n again after = if again then traps Turns line else nothing_done after
  after_test (suc k) n again after = if again then happens visit (and_then (steps_of n body (calls n) after) (λ u. while_turns n k (tested test) line (steps_of n body) (calls n))) else nothing_done after

  test_first : (turns n : ℕ) (st : State) → while_turns n turns (tested test) line (steps_of n body) (calls n) st ≡ and_then (tested test st) (after_test turns n)
  unfolding after_test
  test_first zero n st = refl
  test_first (suc k) n st = refl

  by_test : (turns : ℕ) (o : Result ⊤ Stop) (u : Machine) (new : K) → Follows puts state (λ n. and_then (tested test (state_of w)) (after_test turns n)) w old o u new
      → Follows puts state (λ n. while_turns n turns (tested test) line (steps_of n body) (calls n) (state_of w)) w old o u new
  by_test turns o u new f = subst (λ (run : ℕ → Run ⊤). Follows puts state run w old o u new) (λ i n. sym (test_first turns n (state_of w)) i) f

  pub while_test_stops : (turns : ℕ) (u : Machine) (e : Stop) → Computes (λ n. tested test (state_of w)) w (Err e) u
      → Follows puts state (λ n. while_turns n turns (tested test) line (steps_of n body) (calls n) (state_of w)) w old (Err e) u old
  while_test_stops turns u e f =
      by_test turns (Err e) u old
      (follows_stops puts state (λ n. tested test (state_of w)) (after_test turns) w u old old e (quietly puts state (λ n. tested test (state_of w)) w (Err e) u old f))

  module _ (v : Machine) (b : Bool) (tests : Computes (λ n. tested test (state_of w)) w (Ok b) v) where
    tested_goes : (turns : ℕ) (c : Bool) (o : Result ⊤ Stop) (u : Machine) (new : K) → b ≡ c → Follows puts state (λ n. after_test turns n c (state_of v)) v old o u new
        → Follows puts state (λ n. while_turns n turns (tested test) line (steps_of n body) (calls n) (state_of w)) w old o u new
    tested_goes turns c o u new e f =
        by_test turns o u new
        (follows_then puts state (λ n. tested test (state_of w)) (after_test turns) w v old old u new c o
        (quietly puts state (λ n. tested test (state_of w)) w (Ok c) v old (subst (λ d. Computes (λ n. tested test (state_of w)) w (Ok d) v) e tests)) f)

    pub while_ends : (turns : ℕ) (a : ⊤) → b ≡ false → Follows puts state (λ n. while_turns n turns (tested test) line (steps_of n body) (calls n) (state_of w)) w old (Ok a) v old
    unfolding after_test
    while_ends zero a e =
        tested_goes zero false (Ok a) v old e (quietly puts state (λ n. nothing_done (state_of v)) v (Ok a) v old (record { sizes = same_sizes v; silent = λ fits. refl; ends = λ fits. refl }))
    while_ends (suc k) a e =
        tested_goes (suc k) false (Ok a) v old e (quietly puts state (λ n. nothing_done (state_of v)) v (Ok a) v old (record { sizes = same_sizes v; silent = λ fits. refl; ends = λ fits. refl }))

    pub while_traps : (turns : ℕ) → turns ≡ 0 → b ≡ true
        → Follows puts state (λ n. while_turns n turns (tested test) line (steps_of n body) (calls n) (state_of w)) w old (Err (Trap Turns line)) v old
    unfolding after_test
    while_traps turns none e =
        subst (λ k. Follows puts state (λ n. while_turns n k (tested test) line (steps_of n body) (calls n) (state_of w)) w old (Err (Trap Turns line)) v old) (sym none)
        (tested_goes 0 true (Err (Trap Turns line)) v old e (quietly puts state (λ n. traps Turns line) v (Err (Trap Turns line)) v old (record { sizes = same_sizes v; silent = λ fits. refl; ends = λ fits. refl })))

    module _ (turns k : ℕ) (more : turns ≡ suc k) (e : b ≡ true) where
      again : (o : Result ⊤ Stop) (u : Machine) (new : K)
          → Follows puts state (λ n. happens visit (and_then (steps_of n body (calls n) (state_of v)) (λ x. while_turns n k (tested test) line (steps_of n body) (calls n)))) v old o u new
          → Follows puts state (λ n. while_turns n turns (tested test) line (steps_of n body) (calls n) (state_of w)) w old o u new
      unfolding after_test
      again o u new f =
          subst (λ t. Follows puts state (λ n. while_turns n t (tested test) line (steps_of n body) (calls n) (state_of w)) w old o u new) (sym more) (tested_goes (suc k) true o u new e f)

      pub while_visit_stops : (u : Machine) (x : Stop) → Computes (λ n. happens visit (nothing_done (state_of v))) v (Err x) u
          → Follows puts state (λ n. while_turns n turns (tested test) line (steps_of n body) (calls n) (state_of w)) w old (Err x) u old
      while_visit_stops u x f =
          again (Err x) u old
          (follows_stops puts state (λ n. happens visit (nothing_done (state_of v))) (λ n a after. and_then (steps_of n body (calls n) after) (λ y. while_turns n k (tested test) line (steps_of n body) (calls n))) v u old old x
          (quietly puts state (λ n. happens visit (nothing_done (state_of v))) v (Err x) u old f))

      module _ (q : Machine) (t : ⊤) (began : Computes (λ n. happens visit (nothing_done (state_of v))) v (Ok t) q) where
        turned : (o : Result ⊤ Stop) (u : Machine) (new : K)
            → Follows puts state (λ n. and_then (steps_of n body (calls n) (state_of q)) (λ x. while_turns n k (tested test) line (steps_of n body) (calls n))) q old o u new
            → Follows puts state (λ n. while_turns n turns (tested test) line (steps_of n body) (calls n) (state_of w)) w old o u new
        turned o u new f =
            again o u new
            (follows_then puts state (λ n. happens visit (nothing_done (state_of v))) (λ n a after. and_then (steps_of n body (calls n) after) (λ y. while_turns n k (tested test) line (steps_of n body) (calls n))) v q old old u new t o
            (quietly puts state (λ n. happens visit (nothing_done (state_of v))) v (Ok t) q old began) f)

        pub while_body_stops : (u : Machine) (new : K) (x : Stop) → Follows puts state (λ n. steps_of n body (calls n) (state_of q)) q old (Err x) u new
            → Follows puts state (λ n. while_turns n turns (tested test) line (steps_of n body) (calls n) (state_of w)) w old (Err x) u new
        while_body_stops u new x f =
            turned (Err x) u new (follows_stops puts state (λ n. steps_of n body (calls n) (state_of q)) (λ n y. while_turns n k (tested test) line (steps_of n body) (calls n)) q u old new x f)

        pub while_goes_on : (p u : Machine) (mid new : K) (a : ⊤) (o : Result ⊤ Stop) → Follows puts state (λ n. steps_of n body (calls n) (state_of q)) q old (Ok a) p mid
            → Follows puts state (λ n. while_turns n k (tested test) line (steps_of n body) (calls n) (state_of p)) p mid o u new
            → Follows puts state (λ n. while_turns n turns (tested test) line (steps_of n body) (calls n) (state_of w)) w old o u new
        while_goes_on p u mid new a o f g =
            turned o u new (follows_then puts state (λ n. steps_of n body (calls n) (state_of q)) (λ n y. while_turns n k (tested test) line (steps_of n body) (calls n)) q p old mid u new a o f g)
