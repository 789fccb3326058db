-- Expressions with the value of each node tested by its interval.
use Rattle.std.specs.Prelude.{◌≡◌, ℤ, Bool, true, List, [], if◌then◌else◌}
use Rattle.std.specs.List.{All}
use Rattle.name_check.specs.Names.{name_faults}
use Rattle.source_tree.specs.Run.{Run, returns, and_then}
use Rattle.source_tree.specs.Scope.{range_at}
use Rattle.source_tree.specs.Expression.{Evaluation, evaluation_of_node}
use Rattle.source_tree.specs.Meaning.{meaning_by, meaning}
use Rattle.source_tree.specs.declared.declaration.Program.{Program}
use Rattle.source_tree.specs.declared.expression.Expr.{Expr, fold-Expr, map-Expr}
use Rattle.source_tree.specs.declared.expression.Expr.TheOpen.{Expr-F}
use Rattle.range_inference.specs.Demands.{intervals_in, too_wide}
use Rattle.range_inference.specs.Interval.{Ranges, contains, is_bounded, interval_of_node}
use Rattle.range_inference.specs.declared.interval.Interval.{Interval}

pub record Watched : Type 0 where
  pub interval : Ranges → Interval
  pub evaluation : Evaluation

-- Where the value of a node fails the test by the node's interval, another run stands in place of all that would follow.
module _ (test : Interval → ℤ → Bool) (elsewhere : Run ℤ) where
  abbrev pub watched_node : Expr-F Watched → Watched
  watched_node node = let interval = interval_of_node (map-Expr Watched (Ranges → Interval) (λ w. w.interval) node) in record {
    interval = interval;
    evaluation = λ scope calls state.
        and_then (evaluation_of_node (map-Expr Watched Evaluation (λ w. w.evaluation) node) scope calls state) (λ x after.
        if test (interval (range_at scope)) x then returns x after else elsewhere);
  }

  abbrev pub watched : Expr → Watched
  watched e = fold-Expr Watched watched_node e

  abbrev pub watched_evaluation : Expr → Evaluation
  watched_evaluation e = (watched e).evaluation

-- each number of the interval passes the test
abbrev pub Passes : (Interval → ℤ → Bool) → Interval → Type 0
Passes test interval = (x : ℤ) → contains interval x ≡ true → test interval x ≡ true

-- ---- laws
-- Where no rule of names is broken, a test that each number of each interval of the program passes changes nothing:
-- whatever would be done with a value that fails, the meaning is the same.
abbrev pub TestsPass : Type 0
TestsPass =
    (program : Program) (input : List ℤ) (test : Interval → ℤ → Bool) (elsewhere : Run ℤ)
    → name_faults program ≡ []
    → All (Passes test) (intervals_in program)
    → meaning_by (watched_evaluation test elsewhere) program input ≡ meaning program input

-- Hence in every evaluation each value of a node lies in the interval of the node.
abbrev pub IntervalsHold : Type 0
IntervalsHold =
    (program : Program) (input : List ℤ) (elsewhere : Run ℤ)
    → name_faults program ≡ []
    → meaning_by (watched_evaluation contains elsewhere) program input ≡ meaning program input

-- And where nothing is too wide for a bound, each value lies from -bound to bound.
abbrev pub ValuesWithinBound : Type 0
ValuesWithinBound =
    (program : Program) (input : List ℤ) (bound : ℤ) (elsewhere : Run ℤ)
    → name_faults program ≡ []
    → too_wide bound program ≡ []
    → meaning_by (watched_evaluation (λ interval x. is_bounded bound x) elsewhere) program input
    ≡ meaning program input
