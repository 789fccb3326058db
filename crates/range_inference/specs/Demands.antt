-- What has to lie in the range of a set: declared ranges, the numbers of limits, and the intervals of all nodes of
-- expressions. All of it in text order; in an expression the operands or the index stand before their node, as they
-- are evaluated.
use Rattle.std.specs.Prelude.{ℕ, ◌+◌, ℤ, List, [], ◌∷◌, ◌++◌, if◌then◌else◌}
use Rattle.std.specs.List.{flat_map}
use Rattle.source_tree.specs.Scope.{Scope, range_at, inside, with_declared, names_in, with_all_declared}
use Rattle.source_tree.specs.declared.name.Name.{Name}
use Rattle.source_tree.specs.declared.name.Range.{Range}
use Rattle.source_tree.specs.declared.declaration.Declaration.{Declaration}
use Rattle.source_tree.specs.declared.declaration.Declaration.TheVariants.{Var, Array, Proc}
use Rattle.source_tree.specs.declared.declaration.Local.{Local}
use Rattle.source_tree.specs.declared.declaration.Param.{Param}
use Rattle.source_tree.specs.declared.declaration.Program.{Program}
use Rattle.source_tree.specs.declared.expression.Condition.{Condition}
use Rattle.source_tree.specs.declared.expression.Expr.{Expr, fold-Expr, map-Expr}
use Rattle.source_tree.specs.declared.expression.Expr.TheOpen as expr
use Rattle.source_tree.specs.declared.statement.Place.{Place}
use Rattle.source_tree.specs.declared.statement.Place.TheVariants as place
use Rattle.source_tree.specs.declared.statement.Statement.{Statement, fold-Statement}
use Rattle.source_tree.specs.declared.statement.Statement.TheOpen.{Statement-F, Assign, Print, Read, If, For, While, Call}
use Rattle.range_inference.specs.Interval.{Ranges, from_to, interval_of_range, is_within_bound, interval_of_node}
use Rattle.range_inference.specs.declared.interval.Interval.{Interval}

-- each with its line
pub data Demand : Type 0 where
  declared : Range → ℕ → Demand
  limit : ℤ → ℕ → Demand
  node : Interval → ℕ → Demand

-- ---- expressions
pub record Judged : Type 0 where
  pub interval : Ranges → Interval
  pub demands : Ranges → List Demand

abbrev pub demands_below : expr.Expr-F Judged → Ranges → List Demand
demands_below (expr.Number value line) ranges = []
demands_below (expr.Name name) ranges = []
demands_below (expr.Element name index) ranges = index.demands ranges
demands_below (expr.Neg operand line) ranges = operand.demands ranges
demands_below (expr.Binary left operator right line) ranges = left.demands ranges ++ right.demands ranges

abbrev pub line_of_node : expr.Expr-F Judged → ℕ
line_of_node (expr.Number value line) = line
line_of_node (expr.Name name) = name.line
line_of_node (expr.Element name index) = name.line
line_of_node (expr.Neg operand line) = line
line_of_node (expr.Binary left operator right line) = line

abbrev pub judged_node : expr.Expr-F Judged → Judged
judged_node n = record {
  interval = interval_of_node (map-Expr Judged (Ranges → Interval) (λ j. j.interval) n);
  demands = λ ranges.
      demands_below n ranges ++
      node (interval_of_node (map-Expr Judged (Ranges → Interval) (λ j. j.interval) n) ranges) (line_of_node n) ∷ [];
}

abbrev pub judged : Expr → Judged
judged e = fold-Expr Judged judged_node e

abbrev pub expr_demands : Expr → Ranges → List Demand
expr_demands e ranges = (judged e).demands ranges

abbrev pub exprs_demands : List Expr → Ranges → List Demand
exprs_demands expressions ranges = flat_map (λ e. expr_demands e ranges) expressions

abbrev pub condition_demands : Condition → Ranges → List Demand
condition_demands condition ranges = expr_demands condition.left ranges ++ expr_demands condition.right ranges

-- ---- statements; the index of a place stands before the value that is put there, as in the text
abbrev pub place_demands : Place → Ranges → List Demand
place_demands (place.Name name) ranges = []
place_demands (place.Element name index) ranges = expr_demands index ranges

abbrev pub all_demands : List (Ranges → List Demand) → Ranges → List Demand
all_demands parts ranges = flat_map (λ part. part ranges) parts

abbrev pub demands_of_node : Statement-F (Ranges → List Demand) → Ranges → List Demand
demands_of_node (Assign place value line) ranges = place_demands place ranges ++ expr_demands value ranges
demands_of_node (Print value line) ranges = expr_demands value ranges
demands_of_node (Read place line) ranges = place_demands place ranges
demands_of_node (If condition first second line) ranges =
    condition_demands condition ranges ++ (all_demands first ranges ++ all_demands second ranges)
demands_of_node (For name first last body line) ranges =
    expr_demands first ranges ++ (expr_demands last ranges ++ all_demands body ranges)
demands_of_node (While condition turns body line) ranges =
    condition_demands condition ranges ++ limit turns line ∷ all_demands body ranges
demands_of_node (Call name arguments line) ranges = exprs_demands arguments ranges

abbrev pub statement_demands : Statement → Ranges → List Demand
statement_demands s = fold-Statement (Ranges → List Demand) demands_of_node s

abbrev pub statements_demands : List Statement → Ranges → List Demand
statements_demands statements ranges = flat_map (λ s. statement_demands s ranges) statements

-- ---- declarations; a parameter or local has the line of its name
abbrev pub variables_demands : {A : Type 0} → (A → Name) → (A → Range) → List A → List Demand
variables_demands name range xs = flat_map (λ x. declared (range x) (name x).line ∷ []) xs

abbrev pub params_demands : List Param → List Demand
params_demands params = variables_demands (λ p. p.name) (λ p. p.range) params

abbrev pub locals_demands : List Local → List Demand
locals_demands locals = variables_demands (λ l. l.name) (λ l. l.range) locals

abbrev pub procedure_demands : ℕ → List Param → List Local → List Statement → Scope → List Demand
procedure_demands k params locals body scope =
    params_demands params ++ (locals_demands locals ++ statements_demands body (range_at (inside k params locals scope)))

abbrev pub declaration_demands : ℕ → Declaration → Scope → List Demand
declaration_demands k (Var name range line) scope = declared range line ∷ []
declaration_demands k (Array name len range line) scope = declared range line ∷ []
declaration_demands k (Proc name params locals body line) scope = procedure_demands k params locals body scope

-- declarations from number k on
abbrev pub declarations_demands : ℕ → List Declaration → Scope → List Demand
declarations_demands k [] scope = []
declarations_demands k (d ∷ declarations) scope =
    declaration_demands k d scope ++ declarations_demands (k + names_in d) declarations (with_declared k d scope)

abbrev pub demands_of : Program → List Demand
demands_of program =
    declarations_demands 0 program.declarations [] ++
    statements_demands program.statements (range_at (with_all_declared 0 program.declarations []))

-- ---- read off demands
abbrev pub demanded : Demand → Interval
demanded (declared range line) = interval_of_range range
demanded (limit turns line) = from_to turns turns
demanded (node interval line) = interval

abbrev pub line_of : Demand → ℕ
line_of (declared range line) = line
line_of (limit turns line) = line
line_of (node interval line) = line

abbrev pub wide_lines : ℤ → List Demand → List ℕ
wide_lines bound demands = flat_map (λ d. if is_within_bound bound (demanded d) then [] else line_of d ∷ []) demands

abbrev pub interval_in : Demand → List Interval
interval_in (declared range line) = []
interval_in (limit turns line) = []
interval_in (node interval line) = interval ∷ []

abbrev pub node_intervals : List Demand → List Interval
node_intervals demands = flat_map interval_in demands

-- the lines of all that doesn't lie from -bound to bound
abbrev pub too_wide : ℤ → Program → List ℕ
too_wide bound program = wide_lines bound (demands_of program)

-- the interval of each node
abbrev pub intervals_in : Program → List Interval
intervals_in program = node_intervals (demands_of program)
