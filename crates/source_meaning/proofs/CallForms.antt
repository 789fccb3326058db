-- The form of a call's locals, each set to its start by a visit.
use Rattle.std.proofs.Common.{ℕ, ◌+◌, ◌<◌, ◌≤◌, ℤ, pos, List, ◌∷◌, length, drop, get_or, Result, Ok, Err, refl, sym, subst}
use Rattle.std.proofs.lemmas.List.{drop_all, drop_more}
use Rattle.std.specs.Prelude.{⊤}
use Rattle.source_tree.specs.Run.{visit, happens, and_then}
use Rattle.source_tree.specs.Statement.{nothing_done}
use Rattle.resolved_tree.specs.Meaning.{put_at, locals_set}
use Rattle.source_meaning.specs.declared.machine.Machine.{Machine}
use Rattle.source_meaning.specs.declared.machine.Stop.{Stop}
use Rattle.source_meaning.specs.Follows.{state_of, Computes}
use Rattle.source_meaning.proofs.Following.{same_sizes, computes_then, computes_stops}
use Rattle.source_meaning.proofs.ValueForms.{visited, not_visited}

module _ (k : ℕ) (l : List ℤ) (i : ℕ) (lt : i < length l) (w : Machine) where
  at_rest : (o : Result ⊤ Stop) (u : Machine) → Computes (λ n. locals_set n k (get_or l i (pos 0) ∷ drop (i + 1) l) (state_of w)) w o u → Computes (λ n. locals_set n k (drop i l) (state_of w)) w o u
  at_rest o u f = subst (λ xs. Computes (λ n. locals_set n k xs (state_of w)) w o u) (sym (drop_more l i (pos 0) lt)) f

  pub local_not_begun : (u : Machine) (e : Stop) → Computes (λ n. happens visit (nothing_done (state_of w))) w (Err e) u → Computes (λ n. locals_set n k (drop i l) (state_of w)) w (Err e) u
  local_not_begun u e f =
      at_rest (Err e) u (not_visited (λ n st. and_then (put_at n k (get_or l i (pos 0)) st) (λ a. locals_set n (k + 1) (drop (i + 1) l))) w u e f)

  module _ (v : Machine) (t : ⊤) (began : Computes (λ n. happens visit (nothing_done (state_of w))) w (Ok t) v) where
    pub local_stops : (u : Machine) (e : Stop) → Computes (λ n. put_at n k (get_or l i (pos 0)) (state_of v)) v (Err e) u → Computes (λ n. locals_set n k (drop i l) (state_of w)) w (Err e) u
    local_stops u e f =
        at_rest (Err e) u
        (visited (λ n st. and_then (put_at n k (get_or l i (pos 0)) st) (λ a. locals_set n (k + 1) (drop (i + 1) l))) w v u t (Err e) began
        (computes_stops (λ n. put_at n k (get_or l i (pos 0)) (state_of v)) (λ n a. locals_set n (k + 1) (drop (i + 1) l)) v u e f))

    pub local_goes : (q u : Machine) (a : ⊤) (o : Result ⊤ Stop) → Computes (λ n. put_at n k (get_or l i (pos 0)) (state_of v)) v (Ok a) q
        → Computes (λ n. locals_set n (k + 1) (drop (i + 1) l) (state_of q)) q o u → Computes (λ n. locals_set n k (drop i l) (state_of w)) w o u
    local_goes q u a o f g =
        at_rest o u
        (visited (λ n st. and_then (put_at n k (get_or l i (pos 0)) st) (λ a. locals_set n (k + 1) (drop (i + 1) l))) w v u t o began
        (computes_then (λ n. put_at n k (get_or l i (pos 0)) (state_of v)) (λ n a. locals_set n (k + 1) (drop (i + 1) l)) v q u a o f g))

pub locals_done : (k : ℕ) (l : List ℤ) (i : ℕ) (w : Machine) (a : ⊤) → length l ≤ i → Computes (λ n. locals_set n k (drop i l) (state_of w)) w (Ok a) w
locals_done k l i w a h =
    subst (λ xs. Computes (λ n. locals_set n k xs (state_of w)) w (Ok a) w) (sym (drop_all i l h)) (record { sizes = same_sizes w; silent = λ fits. refl; ends = λ fits. refl })
