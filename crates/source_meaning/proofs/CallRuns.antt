-- The parts of a call: the arguments are put, the locals are set, and the body runs.
use Rattle.std.proofs.Common.{◌≡◌, ℕ, ◌+◌, ℤ, List, take, Result, Ok, Err, sym, ap, subst}
use Rattle.std.specs.Prelude.{⊤}
use Rattle.outside.specs.Sink.{SinkState}
use Rattle.source_tree.specs.State.{State}
use Rattle.source_tree.specs.Run.{Run, and_then}
use Rattle.resolved_tree.specs.Meaning.{put_from, locals_set, steps_of, call_of, calls_of}
use Rattle.resolved_tree.specs.declared.tree.Procedure.{Procedure}
use Rattle.source_meaning.specs.declared.machine.Machine.{Machine}
use Rattle.source_meaning.specs.declared.machine.Stop.{Stop}
use Rattle.source_meaning.specs.Follows.{state_of, held_from, Computes, Follows}
use Rattle.source_meaning.proofs.Following.{quietly, follows_then, follows_stops}

module _ {K : Type 0} (puts : K → List ℕ → K → Type 0) (state : K → SinkState) (ps : List Procedure) (number at : ℕ) (p : Procedure)
    (is : (size : ℕ) → calls_of size ps number ≡ call_of size p (calls_of size (take at ps))) (numbered : p.number ≡ number) (count : ℕ) (w : Machine) (old : K) where
  by_call : (o : Result ⊤ Stop) (u : Machine) (new : K)
      → Follows puts state (λ n. call_of n p (calls_of n (take at ps)) (held_from (p.number + 1) count w) (state_of w)) w old o u new
      → Follows puts state (λ n. calls_of n ps number (held_from (number + 1) count w) (state_of w)) w old o u new
  by_call o u new f =
      subst (λ k. Follows puts state (λ n. calls_of n ps number (held_from (k + 1) count w) (state_of w)) w old o u new) numbered
      (subst (λ (run : ℕ → Run ⊤). Follows puts state run w old o u new)
      (λ i n. sym (ap (λ (call : List ℤ → State → Run ⊤). call (held_from (p.number + 1) count w) (state_of w)) (is n)) i) f)

  pub held_stop : (u : Machine) (e : Stop) → Computes (λ n. put_from n (p.number + 1) (held_from (p.number + 1) count w) (state_of w)) w (Err e) u
      → Follows puts state (λ n. calls_of n ps number (held_from (number + 1) count w) (state_of w)) w old (Err e) u old
  held_stop u e f =
      by_call (Err e) u old
      (follows_stops puts state (λ n. put_from n (p.number + 1) (held_from (p.number + 1) count w) (state_of w))
      (λ n x after. and_then (locals_set n (p.number + 1 + p.params) p.locals after) (λ y. steps_of n p.body (calls_of n (take at ps)))) w u old old e
      (quietly puts state (λ n. put_from n (p.number + 1) (held_from (p.number + 1) count w) (state_of w)) w (Err e) u old f))

  module _ (v : Machine) (a : ⊤) (put : Computes (λ n. put_from n (p.number + 1) (held_from (p.number + 1) count w) (state_of w)) w (Ok a) v) where
    held_put : (o : Result ⊤ Stop) (u : Machine) (new : K)
        → Follows puts state (λ n. and_then (locals_set n (p.number + 1 + p.params) p.locals (state_of v)) (λ y. steps_of n p.body (calls_of n (take at ps)))) v old o u new
        → Follows puts state (λ n. calls_of n ps number (held_from (number + 1) count w) (state_of w)) w old o u new
    held_put o u new f =
        by_call o u new
        (follows_then puts state (λ n. put_from n (p.number + 1) (held_from (p.number + 1) count w) (state_of w))
        (λ n x after. and_then (locals_set n (p.number + 1 + p.params) p.locals after) (λ y. steps_of n p.body (calls_of n (take at ps)))) w v old old u new a o
        (quietly puts state (λ n. put_from n (p.number + 1) (held_from (p.number + 1) count w) (state_of w)) w (Ok a) v old put) f)

    pub locals_stop : (u : Machine) (e : Stop) → Computes (λ n. locals_set n (p.number + 1 + p.params) p.locals (state_of v)) v (Err e) u
        → Follows puts state (λ n. calls_of n ps number (held_from (number + 1) count w) (state_of w)) w old (Err e) u old
    locals_stop u e f =
        held_put (Err e) u old
        (follows_stops puts state (λ n. locals_set n (p.number + 1 + p.params) p.locals (state_of v)) (λ n y. steps_of n p.body (calls_of n (take at ps))) v u old old e
        (quietly puts state (λ n. locals_set n (p.number + 1 + p.params) p.locals (state_of v)) v (Err e) u old f))

    pub body_goes : (q u : Machine) (b : ⊤) (o : Result ⊤ Stop) (new : K) → Computes (λ n. locals_set n (p.number + 1 + p.params) p.locals (state_of v)) v (Ok b) q
        → Follows puts state (λ n. steps_of n p.body (calls_of n (take at ps)) (state_of q)) q old o u new
        → Follows puts state (λ n. calls_of n ps number (held_from (number + 1) count w) (state_of w)) w old o u new
    body_goes q u b o new f g =
        held_put o u new
        (follows_then puts state (λ n. locals_set n (p.number + 1 + p.params) p.locals (state_of v)) (λ n y. steps_of n p.body (calls_of n (take at ps))) v q old old u new b o
        (quietly puts state (λ n. locals_set n (p.number + 1 + p.params) p.locals (state_of v)) v (Ok b) q old f) g)
