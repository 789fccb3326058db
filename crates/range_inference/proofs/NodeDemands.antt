-- What each node demands, by the intervals of its parts.
use Rattle.std.proofs.Common.{◌≡◌, ℕ, ℤ, List, [], ◌∷◌, ◌++◌, map, refl, sym, ap, ◌∙◌, append_assoc, arith, Bool, true, false}
use Rattle.std.specs.Prelude.{if◌then◌else◌}
use Rattle.std.proofs.lemmas.Int.{ints}
use Rattle.std.proofs.lemmas.Bool.Decides.{nat_tests}
use Rattle.source_tree.specs.declared.name.Name.{Name as SourceName}
use Rattle.source_tree.specs.declared.expression.Operator.{Operator}
use Rattle.source_tree.specs.declared.expression.Expr.{Expr, Number, Name, Element, Neg, Binary}
use Rattle.source_tree.specs.declared.expression.Expr.TheOpen as expr
use Rattle.source_tree.specs.declared.expression.Condition.{Condition}
use Rattle.source_tree.specs.declared.statement.Place.{Place}
use Rattle.source_tree.specs.declared.statement.Statement.{Statement, Assign, If, For, While}
use Rattle.source_tree.proofs.Inductions.{each_expr}
use Rattle.range_inference.specs.Demands.{Demand, node, limit, condition_demands, place_demands, all_demands, statement_demands, statements_demands, Judged, judged, expr_demands, wide_lines, judged_node, demands_of_node}
use Rattle.range_inference.specs.Interval.{Ranges, interval_of_range, interval_of, interval_of_node, interval_by, negated, is_within_bound}
use Rattle.range_inference.specs.Operators.{IsSmall, FitsWord}
use Rattle.range_inference.specs.Bound.{IsSetBound}
use Rattle.range_inference.specs.Outcome.{IsFirst}
use Rattle.range_inference.specs.declared.fault.RangeFault.TheVariants.{TooWide}
use Rattle.range_inference.specs.declared.interval.Interval.{Interval}
use Rattle.range_inference.proofs.Passing.{all_demands-map}
use Rattle.range_inference.proofs.Judging.{Two, Three}
use Rattle.source_tree.proofs.FoldEquations.{fold-Number, fold-Name, fold-Element, fold-Neg, fold-Binary, fold-Assign, fold-If, fold-For, fold-While}

abbrev IsSame : Expr → Type 0
IsSame e = (judged e).interval ≡ interval_of e

same : (e : Expr) (j : Judged) (i : Ranges → Interval) → judged e ≡ j → interval_of e ≡ i → j.interval ≡ i → IsSame e
same e j i is_j is_i h = ap (λ (v : Judged). v.interval) is_j ∙ (h ∙ sym is_i)

pub judged_interval : (e : Expr) → IsSame e
judged_interval =
    each_expr IsSame
    (λ value line. same (Number value line) _ _ (fold-Number judged_node value line) (fold-Number interval_of_node value line) refl)
    (λ name. same (Name name) _ _ (fold-Name judged_node name) (fold-Name interval_of_node name) refl)
    (λ name index h. same (Element name index) _ _ (fold-Element judged_node name index) (fold-Element interval_of_node name index) refl)
    (λ operand line h. same (Neg operand line) _ _ (fold-Neg judged_node operand line) (fold-Neg interval_of_node operand line) (ap (λ i. interval_of_node (expr.Neg i line)) h))
    (λ left o right line h k. same (Binary left o right line) _ _ (fold-Binary judged_node left o right line) (fold-Binary interval_of_node left o right line)
    (ap (λ i. interval_of_node (expr.Binary i o (judged right).interval line)) h ∙ ap (λ i. interval_of_node (expr.Binary (interval_of left) o i line)) k))

module _ (ranges : Ranges) where
  pub demands-Element : (e : Expr) (name : SourceName) (index : Expr) → e ≡ Element name index
      → expr_demands e ranges ≡ expr_demands index ranges ++ node (interval_of_range (ranges name.bytes)) name.line ∷ []
  demands-Element e name index is = ap (λ f. (judged f).demands ranges) is ∙ ap (λ (j : Judged). j.demands ranges) (fold-Element judged_node name index)

  pub demands-Neg : (e operand : Expr) (line : ℕ) → e ≡ Neg operand line
      → expr_demands e ranges ≡ expr_demands operand ranges ++ node (negated (interval_of operand ranges)) line ∷ []
  demands-Neg e operand line is =
      ap (λ f. (judged f).demands ranges) is ∙ ap (λ (j : Judged). j.demands ranges) (fold-Neg judged_node operand line)
      ∙ ap (λ (f : Ranges → Interval). expr_demands operand ranges ++ node (negated (f ranges)) line ∷ []) (judged_interval operand)

  pub demands-Binary : (e left : Expr) (o : Operator) (right : Expr) (line : ℕ) → e ≡ Binary left o right line
      → expr_demands e ranges
      ≡ (expr_demands left ranges ++ expr_demands right ranges) ++ node (interval_by o (interval_of left ranges) (interval_of right ranges)) line ∷ []
  demands-Binary e left o right line is =
      let below = expr_demands left ranges ++ expr_demands right ranges in
      ap (λ f. (judged f).demands ranges) is ∙ ap (λ (j : Judged). j.demands ranges) (fold-Binary judged_node left o right line)
      ∙ ap (λ (f : Ranges → Interval). below ++ node (interval_by o (f ranges) ((judged right).interval ranges)) line ∷ []) (judged_interval left)
      ∙ ap (λ (f : Ranges → Interval). below ++ node (interval_by o (interval_of left ranges) (f ranges)) line ∷ []) (judged_interval right)

  pub interval_of-Binary : (e left : Expr) (o : Operator) (right : Expr) (line : ℕ) → e ≡ Binary left o right line
      → interval_of e ranges ≡ interval_by o (interval_of left ranges) (interval_of right ranges)
  interval_of-Binary e left o right line is = ap (λ f. interval_of f ranges) is ∙ ap (λ (f : Ranges → Interval). f ranges) (fold-Binary interval_of_node left o right line)

-- an operator's node, by its sides as they were taken
pub binary_is : (e left : Expr) (o : Operator) (right : Expr) (line : ℕ) (l r : Expr) → e ≡ Binary left o right line → l ≡ left → r ≡ right → e ≡ Binary l o r line
binary_is e left o right line l r is same_left same_right = is ∙ (λ j. Binary (sym same_left j) o (sym same_right j) line)

-- ---- intervals within a bound
pub small_within : (bound : ℤ) (i : Interval) → IsSetBound bound → is_within_bound bound i ≡ true → IsSmall i
small_within bound i b h =
    let l = b.low in let u = b.high in
    record { low_from = grind (arith, ints, nat_tests); low_to = grind (arith, ints, nat_tests); high_from = grind (arith, ints, nat_tests); high_to = grind (arith, ints, nat_tests) }

fits_within : (bound : ℤ) (i : Interval) → IsSetBound bound → is_within_bound bound i ≡ true → FitsWord i
fits_within bound i b h =
    let l = b.low in let u = b.high in record { low = grind (arith, ints, nat_tests); high = grind (arith, ints, nat_tests) }

pub wide_by_size : (bound : ℤ) (i : Interval) → IsSetBound bound → ¬ FitsWord i → is_within_bound bound i ≡ false
wide_by_size bound i b h = of (is_within_bound bound i) refl
  where
    of : (t : Bool) → is_within_bound bound i ≡ t → is_within_bound bound i ≡ false
    of true e = absurd (h (fits_within bound i b e))
    of false e = e

-- a node that is too wide
pub wide_node : (bound : ℤ) (i : Interval) (line : ℕ) → is_within_bound bound i ≡ false → IsFirst (wide_lines bound (node i line ∷ [])) (TooWide line)
wide_node bound i line wide = ([], ap (λ b. (if b then [] else line ∷ []) ++ []) wide)

-- ---- statements
module _ (ranges : Ranges) where
  abbrev of_node : (Ranges → List Demand) → List Demand
  of_node f = f ranges

  pub demands_of-Assign : (s : Statement) (place : Place) (value : Expr) (line : ℕ) → s ≡ Assign place value line
      → statement_demands s ranges ≡ place_demands place ranges ++ expr_demands value ranges
  demands_of-Assign s place value line is = ap (λ t. statement_demands t ranges) is ∙ ap of_node (fold-Assign demands_of_node place value line)

  pub demands_of-If : (s : Statement) (condition : Condition) (first second : List Statement) (line : ℕ) → s ≡ If condition first second line
      → statement_demands s ranges ≡ condition_demands condition ranges ++ (statements_demands first ranges ++ statements_demands second ranges)
  demands_of-If s condition first second line is =
      let c = condition_demands condition ranges in
      ap (λ t. statement_demands t ranges) is ∙ ap of_node (fold-If demands_of_node condition first second line)
      ∙ ap (λ l. c ++ (l ++ all_demands (map statement_demands second) ranges)) (all_demands-map first ranges)
      ∙ ap (λ l. c ++ (statements_demands first ranges ++ l)) (all_demands-map second ranges)

  pub demands_of-For : (s : Statement) (name : SourceName) (first last : Expr) (body : List Statement) (line : ℕ) → s ≡ For name first last body line
      → statement_demands s ranges ≡ expr_demands first ranges ++ (expr_demands last ranges ++ statements_demands body ranges)
  demands_of-For s name first last body line is =
      ap (λ t. statement_demands t ranges) is ∙ ap of_node (fold-For demands_of_node name first last body line)
      ∙ ap (λ l. expr_demands first ranges ++ (expr_demands last ranges ++ l)) (all_demands-map body ranges)

  pub demands_of-While : (s : Statement) (condition : Condition) (turns : ℤ) (body : List Statement) (line : ℕ) → s ≡ While condition turns body line
      → statement_demands s ranges ≡ condition_demands condition ranges ++ ((limit turns line ∷ []) ++ statements_demands body ranges)
  demands_of-While s condition turns body line is =
      ap (λ t. statement_demands t ranges) is ∙ ap of_node (fold-While demands_of_node condition turns body line)
      ∙ ap (λ l. condition_demands condition ranges ++ limit turns line ∷ l) (all_demands-map body ranges)

-- ---- statements and expressions in parts
module _ (ranges : Ranges) where
  abbrev pub assign_parts : (s : Statement) (place : Place) (value : Expr) (line : ℕ) → s ≡ Assign place value line → Two (statement_demands s ranges)
  assign_parts s place value line is =
      record { one = place_demands place ranges; two = expr_demands value ranges; is = demands_of-Assign ranges s place value line is }

  abbrev pub if_parts : (s : Statement) (condition : Condition) (first second : List Statement) (line : ℕ) → s ≡ If condition first second line → Three (statement_demands s ranges)
  if_parts s condition first second line is = record {
    one = condition_demands condition ranges;
    two = statements_demands first ranges;
    three = statements_demands second ranges;
    is = demands_of-If ranges s condition first second line is;
  }

  abbrev pub for_parts : (s : Statement) (name : SourceName) (first last : Expr) (body : List Statement) (line : ℕ) → s ≡ For name first last body line → Three (statement_demands s ranges)
  for_parts s name first last body line is = record {
    one = expr_demands first ranges;
    two = expr_demands last ranges;
    three = statements_demands body ranges;
    is = demands_of-For ranges s name first last body line is;
  }

  abbrev pub while_parts : (s : Statement) (condition : Condition) (turns : ℤ) (body : List Statement) (line : ℕ) → s ≡ While condition turns body line → Three (statement_demands s ranges)
  while_parts s condition turns body line is = record {
    one = condition_demands condition ranges;
    two = limit turns line ∷ [];
    three = statements_demands body ranges;
    is = demands_of-While ranges s condition turns body line is;
  }

  -- by the interval of the node
  abbrev pub element_parts : (e : Expr) (name : SourceName) (index : Expr) (i : Interval) → e ≡ Element name index → i ≡ interval_of_range (ranges name.bytes) → Two (expr_demands e ranges)
  element_parts e name index i is own = record {
    one = expr_demands index ranges;
    two = node i name.line ∷ [];
    is = demands-Element ranges e name index is ∙ ap (λ (j : Interval). expr_demands index ranges ++ node j name.line ∷ []) (sym own);
  }

  abbrev pub neg_parts : (e operand : Expr) (line : ℕ) (i : Interval) → e ≡ Neg operand line → i ≡ negated (interval_of operand ranges) → Two (expr_demands e ranges)
  neg_parts e operand line i is own = record {
    one = expr_demands operand ranges;
    two = node i line ∷ [];
    is = demands-Neg ranges e operand line is ∙ ap (λ (j : Interval). expr_demands operand ranges ++ node j line ∷ []) (sym own);
  }

  abbrev pub binary_parts : (e left : Expr) (o : Operator) (right : Expr) (line : ℕ) (i : Interval) → e ≡ Binary left o right line
      → i ≡ interval_by o (interval_of left ranges) (interval_of right ranges) → Three (expr_demands e ranges)
  binary_parts e left o right line i is own = record {
    one = expr_demands left ranges;
    two = expr_demands right ranges;
    three = node i line ∷ [];
    is = demands-Binary ranges e left o right line is ∙ append_assoc (expr_demands left ranges) (expr_demands right ranges) (node (interval_by o (interval_of left ranges) (interval_of right ranges)) line ∷ [])
        ∙ ap (λ (j : Interval). expr_demands left ranges ++ (expr_demands right ranges ++ node j line ∷ [])) (sym own);
  }
