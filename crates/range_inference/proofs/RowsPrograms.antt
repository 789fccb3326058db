-- Worked rows of sources: the intervals of their nodes, and the lines of what is too wide.
use Rattle.std.proofs.Common.{◌≡◌, ◌∙◌, ◌++◌, refl, ap, ℕ, ℤ, pos, neg_ℤ, List, [], ◌∷◌}
use Rattle.moduli_sets.specs.declared.set_name.SetName.TheVariants.{Pocket, Desk}
use Rattle.source_tree.specs.declared.name.Name.{Name as SourceName}
use Rattle.source_tree.specs.declared.name.Range.{Range}
use Rattle.source_tree.specs.declared.declaration.Program.{Program}
use Rattle.source_tree.specs.declared.declaration.Declaration.TheVariants.{Var, Array}
use Rattle.source_tree.specs.declared.expression.Comparison.TheVariants.{Less}
use Rattle.source_tree.specs.declared.expression.Operator.TheVariants.{Add, Sub, Mul}
use Rattle.source_tree.specs.Scope.{range_at}
use Rattle.source_tree.specs.declared.expression.Expr.{Number, Name, Element, Binary}
use Rattle.source_tree.specs.declared.expression.Expr.TheOpen as expr
use Rattle.source_tree.specs.declared.statement.Place.TheVariants.{Element as AtElement}
use Rattle.source_tree.specs.declared.statement.Statement.{Assign, Print, While}
use Rattle.range_inference.specs.Bound.{bound_of}
use Rattle.range_inference.specs.Demands.{Demand, node, limit, Judged, judged_node, judged, expr_demands, statement_demands, demands_of, wide_lines, too_wide, intervals_in, demands_of_node}
use Rattle.range_inference.specs.Interval.{Ranges, from_to}
use Rattle.source_tree.proofs.FoldEquations.{fold-Number, fold-Name, fold-Element, fold-Binary, fold-Assign, fold-Print, fold-While}

abbrev x : ℕ → SourceName
x line = record { bytes = 120 ∷ []; line = line }

abbrev a : ℕ → SourceName
a line = record { bytes = 97 ∷ []; line = line }

abbrev range : ℤ → ℤ → Range
range low high = record { low = low; high = high }

-- print
-- 49 +
-- 49;
abbrev sum_of_two : Program
sum_of_two = record { declarations = []; statements = Print (Binary (Number (pos 49) 2) Add (Number (pos 49) 3) 2) 1 ∷ [] }

-- ranges where nothing is declared
abbrev empty_scope : Ranges
empty_scope = range_at []

-- what a sum demands, by what is judged of its sides
abbrev sum_after : Judged → Judged → List Demand
sum_after left right = (judged_node (expr.Binary left Add right 2)).demands empty_scope ++ []

-- what a number demands
number_demands : (value : ℤ) (line : ℕ) → expr_demands (Number value line) empty_scope ≡ node (from_to value value) line ∷ []
number_demands value line = ap (λ j. j.demands empty_scope) (fold-Number judged_node value line)

sum_demands : demands_of sum_of_two
    ≡ node (from_to (pos 49) (pos 49)) 2 ∷ (node (from_to (pos 49) (pos 49)) 3 ∷ (node (from_to (pos 98) (pos 98)) 2 ∷ []))
sum_demands =
    ap (λ f. f empty_scope ++ []) (fold-Print demands_of_node (Binary (Number (pos 49) 2) Add (Number (pos 49) 3) 2) 1)
    ∙ ap (λ j. j.demands empty_scope ++ []) (fold-Binary judged_node (Number (pos 49) 2) Add (Number (pos 49) 3) 2)
    ∙ ap (λ j. sum_after j (judged (Number (pos 49) 3))) (fold-Number judged_node (pos 49) 2)
    ∙ ap (λ j. sum_after (judged_node (expr.Number (pos 49) 2)) j) (fold-Number judged_node (pos 49) 3)

pub sum_on_pocket : too_wide (bound_of Pocket) sum_of_two ≡ 2 ∷ []
sum_on_pocket = ap (wide_lines (bound_of Pocket)) sum_demands

pub sum_on_desk : too_wide (bound_of Desk) sum_of_two ≡ []
sum_on_desk = ap (wide_lines (bound_of Desk)) sum_demands

-- var x: 0..9;
-- print x * x - 20;
abbrev square_less_twenty : Program
square_less_twenty = record {
  declarations = Var (x 1) (range (pos 0) (pos 9)) 1 ∷ [];
  statements = Print (Binary (Binary (Name (x 2)) Mul (Name (x 2)) 2) Sub (Number (pos 20) 2) 2) 2 ∷ [];
}

pub square_intervals : intervals_in square_less_twenty
    ≡ from_to (pos 0) (pos 9) ∷ (from_to (pos 0) (pos 9) ∷ (from_to (pos 0) (pos 81) ∷ (from_to (pos 20) (pos 20) ∷ (from_to (neg_ℤ (pos 20)) (pos 61) ∷ []))))
square_intervals = rw (fold-Print demands_of_node) (rw (fold-Binary judged_node) (rw (fold-Binary judged_node) (rw (fold-Name judged_node) (rw (fold-Number judged_node) refl))))

-- array a[1000]: 5..7;
-- print a[0];
abbrev element : Program
element = record {
  declarations = Array (a 1) (pos 1000) (range (pos 5) (pos 7)) 1 ∷ [];
  statements = Print (Element (a 2) (Number (pos 0) 2)) 2 ∷ [];
}

-- the index stands before its element
pub element_intervals : intervals_in element ≡ from_to (pos 0) (pos 0) ∷ (from_to (pos 5) (pos 7) ∷ [])
element_intervals = rw (fold-Print demands_of_node) (rw (fold-Element judged_node) (rw (fold-Number judged_node) refl))

-- an array's length may be as it likes
pub length_not_judged : too_wide (bound_of Pocket) element ≡ []
length_not_judged = rw (fold-Print demands_of_node) (rw (fold-Element judged_node) (rw (fold-Number judged_node) refl))

-- var x: 0..98;
abbrev wide_variable : Program
wide_variable = record { declarations = Var (x 1) (range (pos 0) (pos 98)) 1 ∷ []; statements = [] }

pub variable_on_pocket : too_wide (bound_of Pocket) wide_variable ≡ 1 ∷ []
variable_on_pocket = refl

-- array a[3]: 0..9;
-- a[
-- 98] :=
-- 99;
abbrev index_and_value : Program
index_and_value = record {
  declarations = Array (a 1) (pos 3) (range (pos 0) (pos 9)) 1 ∷ [];
  statements = Assign (AtElement (a 2) (Number (pos 98) 3)) (Number (pos 99) 4) 2 ∷ [];
}

-- the index is judged before the value, as in the text
pub index_first : too_wide (bound_of Pocket) index_and_value ≡ 3 ∷ (4 ∷ [])
index_first = rw (fold-Assign demands_of_node) (rw (fold-Number judged_node (pos 98) 3) (rw (fold-Number judged_node (pos 99) 4) refl))

-- while 0 <
-- 98 limit
-- 99 do print 100; end, with the statement's line 1 and those of its parts 2 and 3
abbrev limited : Program
limited = record {
  declarations = [];
  statements = While (record { left = Number (pos 0) 1; comparison = Less; right = Number (pos 98) 2; line = 1 }) (pos 99) (Print (Number (pos 100) 3) 3 ∷ []) 1 ∷ [];
}

-- what it demands, by what its two sides and its list do
abbrev limited_after : List Demand → List Demand → List Demand → List Demand
limited_after left right body = ((left ++ right) ++ limit (pos 99) 1 ∷ (body ++ [])) ++ []

limited_demands : demands_of limited
    ≡ node (from_to (pos 0) (pos 0)) 1 ∷ (node (from_to (pos 98) (pos 98)) 2 ∷ (limit (pos 99) 1 ∷ (node (from_to (pos 100) (pos 100)) 3 ∷ [])))
limited_demands =
    let body = statement_demands (Print (Number (pos 100) 3) 3) empty_scope in
    ap (λ f. f empty_scope ++ [])
    (fold-While demands_of_node (record { left = Number (pos 0) 1; comparison = Less; right = Number (pos 98) 2; line = 1 }) (pos 99) (Print (Number (pos 100) 3) 3 ∷ []) 1)
    ∙ ap (λ l. limited_after l (expr_demands (Number (pos 98) 2) empty_scope) body) (number_demands (pos 0) 1)
    ∙ ap (λ l. limited_after (node (from_to (pos 0) (pos 0)) 1 ∷ []) l body) (number_demands (pos 98) 2)
    ∙ ap (limited_after (node (from_to (pos 0) (pos 0)) 1 ∷ []) (node (from_to (pos 98) (pos 98)) 2 ∷ []))
    (ap (λ f. f empty_scope) (fold-Print demands_of_node (Number (pos 100) 3) 3) ∙ number_demands (pos 100) 3)

-- condition, limit, list
pub limit_between : too_wide (bound_of Pocket) limited ≡ 2 ∷ (1 ∷ (3 ∷ []))
limit_between = ap (wide_lines (bound_of Pocket)) limited_demands
