-- The forms of a statement, and lists of statements.
use Rattle.std.proofs.Common.{◌≡◌, ℕ, ◌+◌, ℤ, Bool, true, false, List, map, Result, Ok, Err, refl, sym, ap, ◌∙◌, subst}
use Rattle.std.specs.Prelude.{if◌then◌else◌, ⊤, unsigned_abs}
use Rattle.moduli_sets.specs.declared.kind.Kind.TheVariants as kind
use Rattle.outside.specs.Sink.{SinkState}
use Rattle.source_tree.specs.State.{State}
use Rattle.source_tree.specs.Run.{Run, visit, print, happens, returns, traps, and_then}
use Rattle.source_tree.specs.Expression.{Calls}
use Rattle.source_tree.specs.Statement.{nothing_done, turns_of}
use Rattle.resolved_tree.specs.Meaning.{elsewhere, Doing, value_of, tested, put_into, read_into, for_turns, while_turns, argument_values, step_of_node, step_of, steps_of}
use Rattle.resolved_tree.specs.declared.slot.Slot.{Slot}
use Rattle.resolved_tree.specs.declared.tree.Argument.{Argument}
use Rattle.resolved_tree.specs.declared.tree.Step.{Step, Assign, Print, Read, If, For, While, Call, Skip, ind-Step, roll-Step, map-Step}
use Rattle.resolved_tree.specs.declared.tree.Step.TheOpen as step
use Rattle.resolved_tree.specs.declared.tree.Target.{Target}
use Rattle.resolved_tree.specs.declared.tree.Test.{Test}
use Rattle.resolved_tree.specs.declared.tree.Value.{Value}
use Rattle.resolved_tree.proofs.Equations.{step-Assign, step-Print, step-Read, step-If, step-For, step-While, step-Call, step-Skip}
use Rattle.source_meaning.specs.declared.machine.Machine.{Machine}
use Rattle.source_meaning.specs.declared.machine.Stop.{Stop}
use Rattle.source_meaning.specs.Follows.{state_of, Computes, Follows}
use Rattle.source_meaning.proofs.Following.{quietly, follows_then, follows_stops}
use Rattle.source_meaning.proofs.ValueForms.{not_visited}

-- ---- each begins with a visit
abbrev unvisited : {A : Type 0} → Run A → Run A
unvisited (happens event r) = r
unvisited (returns x s) = elsewhere
unvisited (traps kind line) = elsewhere

abbrev Begins : Step → Type 0
Begins s = (n : ℕ) (calls : Calls) (st : State) → step_of n s calls st ≡ happens visit (unvisited (step_of n s calls st))

begins_by : (s : Step) (y : ℕ → step.Step-F Doing) → ((n : ℕ) → step_of n s ≡ step_of_node n (y n))
    → ((n : ℕ) (calls : Calls) (st : State) → step_of_node n (y n) calls st ≡ happens visit (unvisited (step_of_node n (y n) calls st))) → Begins s
begins_by s y is f n calls st =
    let e = ap (λ (d : Doing). d calls st) (is n) in
    e ∙ f n calls st ∙ ap (λ r. happens visit (unvisited r)) (sym e)

begins_node : (y : step.Step-F ((s : Step) × Begins s)) → Begins (roll-Step (map-Step ((s : Step) × Begins s) Step (λ e. e.0) y))
unfolding roll-Step denote.Hole.Carrier.roll
begins_node (step.Assign place v line) = begins_by (Assign place v line) (λ n. step.Assign place v line) (λ n. step-Assign n place v line) (λ n calls st. refl)
begins_node (step.Print v) = begins_by (Print v) (λ n. step.Print v) (λ n. step-Print n v) (λ n calls st. refl)
begins_node (step.Read place line) = begins_by (Read place line) (λ n. step.Read place line) (λ n. step-Read n place line) (λ n calls st. refl)
begins_node (step.If test first second) =
    begins_by (If test (map (λ e. e.0) first) (map (λ e. e.0) second)) (λ n. step.If test (map (step_of n) (map (λ e. e.0) first)) (map (step_of n) (map (λ e. e.0) second)))
    (λ n. step-If n test (map (λ e. e.0) first) (map (λ e. e.0) second)) (λ n calls st. refl)
begins_node (step.For s first last body line) =
    begins_by (For s first last (map (λ e. e.0) body) line) (λ n. step.For s first last (map (step_of n) (map (λ e. e.0) body)) line) (λ n. step-For n s first last (map (λ e. e.0) body) line) (λ n calls st. refl)
begins_node (step.While test limit body line) =
    begins_by (While test limit (map (λ e. e.0) body) line) (λ n. step.While test limit (map (step_of n) (map (λ e. e.0) body)) line) (λ n. step-While n test limit (map (λ e. e.0) body) line) (λ n calls st. refl)
begins_node (step.Call k arguments line) = begins_by (Call k arguments line) (λ n. step.Call k arguments line) (λ n. step-Call n k arguments line) (λ n calls st. refl)
begins_node step.Skip = begins_by Skip (λ n. step.Skip) (λ n. step-Skip n) (λ n calls st. refl)

begins : (s : Step) → Begins s
begins = ind-Step Begins (λ x y is. subst (λ z. Begins (roll-Step z)) is (begins_node y))

module _ {K : Type 0} (puts : K → List ℕ → K → Type 0) (state : K → SinkState) (calls : ℕ → Calls) where
  pub step_not_begun : (s : Step) (w u : Machine) (old : K) (e : Stop) → Computes (λ n. happens visit (nothing_done (state_of w))) w (Err e) u
      → Follows puts state (λ n. step_of n s (calls n) (state_of w)) w old (Err e) u old
  step_not_begun s w u old e m =
      subst (λ (run : ℕ → Run ⊤). Follows puts state run w old (Err e) u old) (λ i n. sym (begins s n (calls n) (state_of w)) i)
      (quietly puts state (λ n. happens visit (unvisited (step_of n s (calls n) (state_of w)))) w (Err e) u old
      (not_visited (λ n st. unvisited (step_of n s (calls n) (state_of w))) w u e m))

  module _ (s : Step) (w m : Machine) (old : K) (t : ⊤) (began : Computes (λ n. happens visit (nothing_done (state_of w))) w (Ok t) m) where
    formed : (r : ℕ → State → Run ⊤) (u : Machine) (o : Result ⊤ Stop) (new : K) → ((n : ℕ) (st : State) → step_of n s (calls n) st ≡ happens visit (r n st))
        → Follows puts state (λ n. r n (state_of m)) m old o u new → Follows puts state (λ n. step_of n s (calls n) (state_of w)) w old o u new
    formed r u o new q f =
        subst (λ (run : ℕ → Run ⊤). Follows puts state run w old o u new) (λ i n. sym (q n (state_of w)) i)
        (follows_then puts state (λ n. happens visit (nothing_done (state_of w))) (λ n a st. r n st) w m old old u new t o
        (quietly puts state (λ n. happens visit (nothing_done (state_of w))) w (Ok t) m old began) f)

    node_is : (form : Step) (y : ℕ → step.Step-F Doing) → s ≡ form → ((n : ℕ) → step_of n form ≡ step_of_node n (y n)) → (n : ℕ) (st : State) → step_of n s (calls n) st ≡ step_of_node n (y n) (calls n) st
    node_is form y is node n st = ap (λ z. step_of n z (calls n) st) is ∙ ap (λ (d : Doing). d (calls n) st) (node n)

    pub assign_goes : (place : Target) (v : Value) (line : ℕ) (u : Machine) (o : Result ⊤ Stop) → s ≡ Assign place v line
        → Computes (λ n. and_then (value_of v (state_of m)) (λ x. put_into n place x kind.Range line line)) m o u
        → Follows puts state (λ n. step_of n s (calls n) (state_of w)) w old o u old
    assign_goes place v line u o is f =
        formed (λ n st. and_then (value_of v st) (λ x. put_into n place x kind.Range line line)) u o old (node_is (Assign place v line) (λ n. step.Assign place v line) is (λ n. step-Assign n place v line))
        (quietly puts state (λ n. and_then (value_of v (state_of m)) (λ x. put_into n place x kind.Range line line)) m o u old f)

    pub print_goes : (v : Value) (u : Machine) (o : Result ⊤ Stop) (new : K) → s ≡ Print v
        → Follows puts state (λ n. and_then (value_of v (state_of m)) (λ x after. happens (print x) (nothing_done after))) m old o u new
        → Follows puts state (λ n. step_of n s (calls n) (state_of w)) w old o u new
    print_goes v u o new is f =
        formed (λ n st. and_then (value_of v st) (λ x after. happens (print x) (nothing_done after))) u o new (node_is (Print v) (λ n. step.Print v) is (λ n. step-Print n v)) f

    pub read_goes : (place : Target) (line : ℕ) (u : Machine) (o : Result ⊤ Stop) → s ≡ Read place line
        → Computes (λ n. read_into n place line (state_of m).input (state_of m)) m o u
        → Follows puts state (λ n. step_of n s (calls n) (state_of w)) w old o u old
    read_goes place line u o is f =
        formed (λ n st. read_into n place line st.input st) u o old (node_is (Read place line) (λ n. step.Read place line) is (λ n. step-Read n place line))
        (quietly puts state (λ n. read_into n place line (state_of m).input (state_of m)) m o u old f)

    pub skip_goes : (u : Machine) (o : Result ⊤ Stop) → s ≡ Skip → Computes (λ n. nothing_done (state_of m)) m o u
        → Follows puts state (λ n. step_of n s (calls n) (state_of w)) w old o u old
    skip_goes u o is f =
        formed (λ n st. nothing_done st) u o old (node_is Skip (λ n. step.Skip) is (λ n. step-Skip n)) (quietly puts state (λ n. nothing_done (state_of m)) m o u old f)

    module _ (test : Test) (first second : List Step) (is : s ≡ If test first second) where
      if_formed : (u : Machine) (o : Result ⊤ Stop) (new : K)
          → Follows puts state (λ n. and_then (tested test (state_of m)) (λ chosen after. if chosen then steps_of n first (calls n) after else steps_of n second (calls n) after)) m old o u new
          → Follows puts state (λ n. step_of n s (calls n) (state_of w)) w old o u new
      if_formed u o new f =
          formed (λ n st. and_then (tested test st) (λ chosen after. if chosen then steps_of n first (calls n) after else steps_of n second (calls n) after)) u o new
          (node_is (If test first second) (λ n. step.If test (map (step_of n) first) (map (step_of n) second)) is (λ n. step-If n test first second)) f

      pub test_stops : (u : Machine) (e : Stop) → Computes (λ n. tested test (state_of m)) m (Err e) u → Follows puts state (λ n. step_of n s (calls n) (state_of w)) w old (Err e) u old
      test_stops u e f =
          if_formed u (Err e) old
          (follows_stops puts state (λ n. tested test (state_of m)) (λ n chosen after. if chosen then steps_of n first (calls n) after else steps_of n second (calls n) after) m u old old e
          (quietly puts state (λ n. tested test (state_of m)) m (Err e) u old f))

      chosen_goes : (u q : Machine) (b : Bool) (o : Result ⊤ Stop) (new : K) → Computes (λ n. tested test (state_of m)) m (Ok b) u
          → Follows puts state (λ n. if b then steps_of n first (calls n) (state_of u) else steps_of n second (calls n) (state_of u)) u old o q new
          → Follows puts state (λ n. step_of n s (calls n) (state_of w)) w old o q new
      chosen_goes u q b o new f g =
          if_formed q o new
          (follows_then puts state (λ n. tested test (state_of m)) (λ n chosen after. if chosen then steps_of n first (calls n) after else steps_of n second (calls n) after) m u old old q new b o
          (quietly puts state (λ n. tested test (state_of m)) m (Ok b) u old f) g)

      pub first_goes : (u q : Machine) (b : Bool) (o : Result ⊤ Stop) (new : K) → b ≡ true → Computes (λ n. tested test (state_of m)) m (Ok b) u
          → Follows puts state (λ n. steps_of n first (calls n) (state_of u)) u old o q new → Follows puts state (λ n. step_of n s (calls n) (state_of w)) w old o q new
      first_goes u q b o new e f g = chosen_goes u q true o new (subst (λ c. Computes (λ n. tested test (state_of m)) m (Ok c) u) e f) g

      pub second_goes : (u q : Machine) (b : Bool) (o : Result ⊤ Stop) (new : K) → b ≡ false → Computes (λ n. tested test (state_of m)) m (Ok b) u
          → Follows puts state (λ n. steps_of n second (calls n) (state_of u)) u old o q new → Follows puts state (λ n. step_of n s (calls n) (state_of w)) w old o q new
      second_goes u q b o new e f g = chosen_goes u q false o new (subst (λ c. Computes (λ n. tested test (state_of m)) m (Ok c) u) e f) g

    module _ (slot : Slot) (first last : Value) (body : List Step) (line : ℕ) (is : s ≡ For slot first last body line) where
      for_formed : (u : Machine) (o : Result ⊤ Stop) (new : K)
          → Follows puts state (λ n. and_then (value_of first (state_of m)) (λ a after. and_then (value_of last after) (λ b. for_turns n (turns_of a b) a slot line (steps_of n body) (calls n)))) m old o u new
          → Follows puts state (λ n. step_of n s (calls n) (state_of w)) w old o u new
      for_formed u o new f =
          formed (λ n st. and_then (value_of first st) (λ a after. and_then (value_of last after) (λ b. for_turns n (turns_of a b) a slot line (steps_of n body) (calls n)))) u o new
          (node_is (For slot first last body line) (λ n. step.For slot first last (map (step_of n) body) line) is (λ n. step-For n slot first last body line)) f

      pub start_stops : (u : Machine) (e : Stop) → Computes (λ n. value_of first (state_of m)) m (Err e) u → Follows puts state (λ n. step_of n s (calls n) (state_of w)) w old (Err e) u old
      start_stops u e f =
          for_formed u (Err e) old
          (follows_stops puts state (λ n. value_of first (state_of m)) (λ n a after. and_then (value_of last after) (λ b. for_turns n (turns_of a b) a slot line (steps_of n body) (calls n))) m u old old e
          (quietly puts state (λ n. value_of first (state_of m)) m (Err e) u old f))

      started : (u q : Machine) (a : ℤ) (o : Result ⊤ Stop) (new : K) → Computes (λ n. value_of first (state_of m)) m (Ok a) u
          → Follows puts state (λ n. and_then (value_of last (state_of u)) (λ b. for_turns n (turns_of a b) a slot line (steps_of n body) (calls n))) u old o q new
          → Follows puts state (λ n. step_of n s (calls n) (state_of w)) w old o q new
      started u q a o new f g =
          for_formed q o new
          (follows_then puts state (λ n. value_of first (state_of m)) (λ n a after. and_then (value_of last after) (λ b. for_turns n (turns_of a b) a slot line (steps_of n body) (calls n))) m u old old q new a o
          (quietly puts state (λ n. value_of first (state_of m)) m (Ok a) u old f) g)

      pub end_stops : (u q : Machine) (a : ℤ) (e : Stop) → Computes (λ n. value_of first (state_of m)) m (Ok a) u → Computes (λ n. value_of last (state_of u)) u (Err e) q
          → Follows puts state (λ n. step_of n s (calls n) (state_of w)) w old (Err e) q old
      end_stops u q a e f g =
          started u q a (Err e) old f
          (follows_stops puts state (λ n. value_of last (state_of u)) (λ n b. for_turns n (turns_of a b) a slot line (steps_of n body) (calls n)) u q old old e
          (quietly puts state (λ n. value_of last (state_of u)) u (Err e) q old g))

      pub for_goes : (u q p : Machine) (a b : ℤ) (o : Result ⊤ Stop) (new : K) → Computes (λ n. value_of first (state_of m)) m (Ok a) u → Computes (λ n. value_of last (state_of u)) u (Ok b) q
          → Follows puts state (λ n. for_turns n (turns_of a b) a slot line (steps_of n body) (calls n) (state_of q)) q old o p new
          → Follows puts state (λ n. step_of n s (calls n) (state_of w)) w old o p new
      for_goes u q p a b o new f g h =
          started u p a o new f
          (follows_then puts state (λ n. value_of last (state_of u)) (λ n b. for_turns n (turns_of a b) a slot line (steps_of n body) (calls n)) u q old old p new b o
          (quietly puts state (λ n. value_of last (state_of u)) u (Ok b) q old g) h)

    pub while_goes : (test : Test) (limit : ℤ) (body : List Step) (line : ℕ) (u : Machine) (o : Result ⊤ Stop) (new : K) → s ≡ While test limit body line
        → Follows puts state (λ n. while_turns n (unsigned_abs limit) (tested test) line (steps_of n body) (calls n) (state_of m)) m old o u new
        → Follows puts state (λ n. step_of n s (calls n) (state_of w)) w old o u new
    while_goes test limit body line u o new is f =
        formed (λ n st. while_turns n (unsigned_abs limit) (tested test) line (steps_of n body) (calls n) st) u o new
        (node_is (While test limit body line) (λ n. step.While test limit (map (step_of n) body) line) is (λ n. step-While n test limit body line)) f

    module _ (k : ℕ) (arguments : List Argument) (line : ℕ) (is : s ≡ Call k arguments line) where
      call_formed : (u : Machine) (o : Result ⊤ Stop) (new : K) → Follows puts state (λ n. and_then (argument_values n (k + 1) arguments line (state_of m)) (calls n k)) m old o u new
          → Follows puts state (λ n. step_of n s (calls n) (state_of w)) w old o u new
      call_formed u o new f =
          formed (λ n st. and_then (argument_values n (k + 1) arguments line st) (calls n k)) u o new (node_is (Call k arguments line) (λ n. step.Call k arguments line) is (λ n. step-Call n k arguments line)) f

      pub arguments_stop : (u : Machine) (e : Stop) → Computes (λ n. argument_values n (k + 1) arguments line (state_of m)) m (Err e) u
          → Follows puts state (λ n. step_of n s (calls n) (state_of w)) w old (Err e) u old
      arguments_stop u e f =
          call_formed u (Err e) old
          (follows_stops puts state (λ n. argument_values n (k + 1) arguments line (state_of m)) (λ n. calls n k) m u old old e
          (quietly puts state (λ n. argument_values n (k + 1) arguments line (state_of m)) m (Err e) u old f))

      pub call_goes : (u q : Machine) (xs : List ℤ) (o : Result ⊤ Stop) (new : K) → Computes (λ n. argument_values n (k + 1) arguments line (state_of m)) m (Ok xs) u
          → Follows puts state (λ n. calls n k xs (state_of u)) u old o q new → Follows puts state (λ n. step_of n s (calls n) (state_of w)) w old o q new
      call_goes u q xs o new f g =
          call_formed q o new
          (follows_then puts state (λ n. argument_values n (k + 1) arguments line (state_of m)) (λ n. calls n k) m u old old q new xs o
          (quietly puts state (λ n. argument_values n (k + 1) arguments line (state_of m)) m (Ok xs) u old f) g)
