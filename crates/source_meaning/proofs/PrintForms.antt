-- The form of a print: a value, and one put of a line.
use Rattle.std.proofs.Common.{◌≡◌, ℕ, ℤ, List, Result, Ok, Err, refl, subst}
use Rattle.std.specs.Prelude.{⊤, ◌==◌, ◌||◌, not}
use Rattle.std.specs.Fmt.{signed_decimal}
use Rattle.number_text.specs.Lines.{line}
use Rattle.outside.specs.Sink.{SinkState, PutLeaves}
use Rattle.outside.specs.declared.sink.Put.TheVariants.{Done, Failed}
use Rattle.outside.proofs.Runs.{WroteAll-one, BrokeOff-one}
use Rattle.source_tree.specs.Run.{print, happens, and_then}
use Rattle.source_tree.specs.Statement.{nothing_done}
use Rattle.resolved_tree.specs.Meaning.{value_of}
use Rattle.resolved_tree.specs.declared.tree.Value.{Value}
use Rattle.source_meaning.specs.declared.machine.Machine.{Machine}
use Rattle.source_meaning.specs.declared.machine.Stop.{Stop}
use Rattle.source_meaning.specs.declared.machine.Stop.TheVariants.{SinkFailed}
use Rattle.source_meaning.specs.Follows.{state_of, Computes, Follows}
use Rattle.source_meaning.proofs.Following.{same_sizes, quietly, follows_then, follows_stops}

module _ {K : Type 0} (puts : K → List ℕ → K → Type 0) (state : K → SinkState) (v : Value) (w m : Machine) (old : K) where
  pub print_stops : (e : Stop) → Computes (λ n. value_of v (state_of w)) w (Err e) m
      → Follows puts state (λ n. and_then (value_of v (state_of w)) (λ x after. happens (print x) (nothing_done after))) w old (Err e) m old
  print_stops e f =
      follows_stops puts state (λ n. value_of v (state_of w)) (λ n x after. happens (print x) (nothing_done after)) w m old old e (quietly puts state (λ n. value_of v (state_of w)) w (Err e) m old f)

  module _ (x : ℤ) (piece : List ℕ) (new : K) (f : Computes (λ n. value_of v (state_of w)) w (Ok x) m) (is : piece ≡ line (signed_decimal x))
      (late : (state new).late ≡ ((state old).late || not ((state old).faults == 0))) (one : puts old piece new) where
    then_put : (o : Result ⊤ Stop) → Follows puts state (λ n. happens (print x) (nothing_done (state_of m))) m old o m new
        → Follows puts state (λ n. and_then (value_of v (state_of w)) (λ x after. happens (print x) (nothing_done after))) w old o m new
    then_put o g =
        follows_then puts state (λ n. value_of v (state_of w)) (λ n x after. happens (print x) (nothing_done after)) w m old old m new x o (quietly puts state (λ n. value_of v (state_of w)) w (Ok x) m old f) g

    pub print_goes : (a : ⊤) → PutLeaves (state old) piece Done (state new)
        → Follows puts state (λ n. and_then (value_of v (state_of w)) (λ x after. happens (print x) (nothing_done after))) w old (Ok a) m new
    print_goes a leaves =
        then_put (Ok a) (record {
          sizes = same_sizes m;
          does = λ fits. (WroteAll-one old (line (signed_decimal x)) new (subst (λ p. PutLeaves (state old) p Done (state new)) is leaves) late (subst (λ p. puts old p new) is one), refl);
        })

    pub print_breaks : PutLeaves (state old) piece Failed (state new)
        → Follows puts state (λ n. and_then (value_of v (state_of w)) (λ x after. happens (print x) (nothing_done after))) w old (Err SinkFailed) m new
    print_breaks leaves =
        then_put (Err SinkFailed) (record {
          sizes = same_sizes m;
          does = λ fits. (1, BrokeOff-one old (line (signed_decimal x)) new (subst (λ p. PutLeaves (state old) p Failed (state new)) is leaves) late (subst (λ p. puts old p new) is one));
        })
