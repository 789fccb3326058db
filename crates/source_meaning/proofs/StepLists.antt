-- Statements, one after another.
use Rattle.std.proofs.Common.{◌≡◌, ℕ, zero, suc, ◌+◌, ◌<◌, ◌≤◌, List, [], ◌∷◌, length, drop, Result, Ok, Err, refl, sym, ap, ◌∙◌, subst, arith, get_or}
use Rattle.std.specs.Prelude.{⊤}
use Rattle.source_tree.specs.Statement.{nothing_done}
use Rattle.outside.specs.Sink.{SinkState}
use Rattle.source_tree.specs.Expression.{Calls}
use Rattle.resolved_tree.specs.Meaning.{step_of, steps_of}
use Rattle.resolved_tree.specs.declared.tree.Step.{Step}
use Rattle.source_meaning.specs.declared.machine.Machine.{Machine}
use Rattle.source_meaning.specs.declared.machine.Stop.{Stop}
use Rattle.source_meaning.specs.Follows.{state_of, Follows}
use Rattle.source_meaning.proofs.Following.{same_sizes, quietly, follows_then, follows_stops}

pub rest_is : {A : Type 0} (l : List A) (i : ℕ) (x : A) → i < length l → x ≡ get_or l i x → drop i l ≡ x ∷ drop (i + 1) l
rest_is [] i x h e = absurd (omega arith)
rest_is (y ∷ l) zero x h e = ap (λ z. z ∷ l) (sym e)
rest_is (y ∷ l) (suc i) x h e =
    let more : suc (i + 1) ≡ suc i + 1 = omega arith in
    rest_is l i x (omega arith) e ∙ ap (λ n. x ∷ drop n (y ∷ l)) more

pub rest_none : {A : Type 0} (l : List A) (i : ℕ) → length l ≤ i → drop i l ≡ []
rest_none [] zero h = refl
rest_none [] (suc i) h = refl
rest_none (x ∷ l) zero h = absurd (omega arith)
rest_none (x ∷ l) (suc i) h = rest_none l i (omega arith)

module _ {K : Type 0} (puts : K → List ℕ → K → Type 0) (state : K → SinkState) (calls : ℕ → Calls) (l : List Step) (i : ℕ) (s : Step) (w v : Machine) (old mid : K) (lt : i < length l) (is : s ≡ get_or l i s) where
  pub next_goes : (u : Machine) (new : K) (a : ⊤) (o : Result ⊤ Stop) → Follows puts state (λ n. step_of n s (calls n) (state_of w)) w old (Ok a) v mid
      → Follows puts state (λ n. steps_of n (drop (i + 1) l) (calls n) (state_of v)) v mid o u new → Follows puts state (λ n. steps_of n (drop i l) (calls n) (state_of w)) w old o u new
  next_goes u new a o f g =
      subst (λ k. Follows puts state (λ n. steps_of n k (calls n) (state_of w)) w old o u new) (sym (rest_is l i s lt is))
      (follows_then puts state (λ n. step_of n s (calls n) (state_of w)) (λ n x after. steps_of n (drop (i + 1) l) (calls n) after) w v old mid u new a o f g)

  pub next_stops : (e : Stop) → Follows puts state (λ n. step_of n s (calls n) (state_of w)) w old (Err e) v mid → Follows puts state (λ n. steps_of n (drop i l) (calls n) (state_of w)) w old (Err e) v mid
  next_stops e f =
      subst (λ k. Follows puts state (λ n. steps_of n k (calls n) (state_of w)) w old (Err e) v mid) (sym (rest_is l i s lt is))
      (follows_stops puts state (λ n. step_of n s (calls n) (state_of w)) (λ n x after. steps_of n (drop (i + 1) l) (calls n) after) w v old mid e f)

pub steps_done : {K : Type 0} (puts : K → List ℕ → K → Type 0) (state : K → SinkState) (calls : ℕ → Calls) (l : List Step) (i : ℕ) (w : Machine) (old : K) (a : ⊤) → length l ≤ i
    → Follows puts state (λ n. steps_of n (drop i l) (calls n) (state_of w)) w old (Ok a) w old
steps_done puts state calls l i w old a h =
    subst (λ k. Follows puts state (λ n. steps_of n k (calls n) (state_of w)) w old (Ok a) w old) (sym (rest_none l i h))
    (quietly puts state (λ n. nothing_done (state_of w)) w (Ok a) w old (record { sizes = same_sizes w; silent = λ fits. refl; ends = λ fits. refl }))
