-- Expressions that want a register that isn't there: the line of the first that would be left in register 16, in the order
-- of the code.
use Rattle.std.specs.Prelude.{ℕ, ◌+◌, nat_le, List, [], ◌∷◌, map, Option, Some, None, if◌then◌else◌}
use Rattle.moduli_sets.specs.Set.{ModuliSet}
use Rattle.source_tree.specs.declared.expression.Operator.{Operator}
use Rattle.source_tree.specs.declared.expression.Operator.TheVariants as operator
use Rattle.source_tree.specs.declared.expression.Expr.{Expr, fold-Expr}
use Rattle.source_tree.specs.declared.expression.Expr.TheOpen as expr
use Rattle.source_tree.specs.declared.expression.Condition.{Condition}
use Rattle.source_tree.specs.declared.statement.Place.{Place}
use Rattle.source_tree.specs.declared.statement.Place.TheVariants as place
use Rattle.source_tree.specs.declared.statement.Statement.{Statement, fold-Statement}
use Rattle.source_tree.specs.declared.statement.Statement.TheOpen as statement
use Rattle.source_tree.specs.declared.declaration.Declaration.{Declaration}
use Rattle.source_tree.specs.declared.declaration.Declaration.TheVariants.{Var, Array, Proc}
use Rattle.source_tree.specs.declared.declaration.Program.{Program}
use Rattle.selector.specs.Factors.{channels_of}

-- how many registers there are
abbrev pub registers : ℕ
registers = 16

-- the first of two lines
abbrev pub first_of : Option ℕ → Option ℕ → Option ℕ
first_of None next = next
first_of (Some line) next = Some line

-- the first of some
abbrev pub first_line : List (Option ℕ) → Option ℕ
first_line [] = None
first_line (line ∷ lines) = first_of line (first_line lines)

-- ---- expressions
-- The line for the code that leaves it in register d, that adds it to what is there, and that divides what is there by it.
-- The code that leaves it with the other sign wants the same registers as the one that leaves it.
pub record Depth : Type 0 where
  pub leaves : (d : ℕ) → Option ℕ
  pub adds : (d : ℕ) → Option ℕ
  pub divides : (d : ℕ) → Option ℕ

-- where it is left in register d
abbrev pub line_at : Depth → (d : ℕ) → Option ℕ
line_at depth d = depth.leaves d

-- its own line where register d isn't there, or else that of its parts
abbrev pub at_line : (line : ℕ) → (ℕ → Option ℕ) → (d : ℕ) → Option ℕ
at_line line parts d = if nat_le registers d then Some line else parts d

abbrev pub depth_of : (line : ℕ) → (ℕ → Option ℕ) → Depth
depth_of line parts = record {
  leaves = λ d. at_line line parts d;
  adds = λ d. at_line line parts (d + 1);
  divides = λ d. at_line line parts (d + 1);
}

-- a number by which is scaled is left nowhere
abbrev pub divided_by : (line : ℕ) → List ℕ → (d : ℕ) → Option ℕ
divided_by line [] d = at_line line (λ e. None) (d + 1)
divided_by line (s ∷ more) d = None

-- both sides, the right one in the next register
abbrev pub sides : Depth → Depth → (d : ℕ) → Option ℕ
sides a b d = first_of (a.leaves d) (b.leaves (d + 1))

abbrev pub operated : Operator → Depth → Depth → (line : ℕ) → Depth
operated operator.Add a b line = depth_of line (λ d. first_of (a.leaves d) (b.adds d))
operated operator.Sub a b line = depth_of line (sides a b)
operated operator.Mul a b line = record (depth_of line (sides a b)) { adds = λ d. sides a b (d + 1) }
operated operator.Div a b line = depth_of line (λ d. first_of (a.leaves d) (b.divides d))
operated operator.Mod a b line = depth_of line (sides a b)

module _ (set : ModuliSet) where
  abbrev pub depth_of_node : expr.Expr-F Depth → Depth
  depth_of_node (expr.Number n line) =
      record (depth_of line (λ d. None)) { divides = divided_by line (channels_of set n) }
  depth_of_node (expr.Name name) = depth_of name.line (λ d. None)
  depth_of_node (expr.Element name index) = depth_of name.line index.leaves
  depth_of_node (expr.Neg operand line) = depth_of line operand.leaves
  depth_of_node (expr.Binary left o right line) = operated o left right line

  abbrev pub depth : Expr → Depth
  depth e = fold-Expr Depth depth_of_node e

  -- the line for an expression that is left in register d
  abbrev pub too_deep : Expr → (d : ℕ) → Option ℕ
  too_deep e d = line_at (depth e) d

  -- ---- statements
  abbrev pub condition_too_deep : Condition → Option ℕ
  condition_too_deep c = first_of (too_deep c.left 0) (too_deep c.right 1)

  -- the index of an element
  abbrev pub place_too_deep : Place → Option ℕ
  place_too_deep (place.Name name) = None
  place_too_deep (place.Element name index) = too_deep index 1

  abbrev pub too_deep_node : statement.Statement-F (Option ℕ) → Option ℕ
  too_deep_node (statement.Assign p e line) = first_of (too_deep e 0) (place_too_deep p)
  too_deep_node (statement.Print e line) = too_deep e 0
  too_deep_node (statement.Read p line) = place_too_deep p
  too_deep_node (statement.If c first second line) =
      first_of (condition_too_deep c) (first_of (first_line first) (first_line second))
  too_deep_node (statement.For name first last body line) =
      first_of (too_deep first 0) (first_of (too_deep last 1) (first_line body))
  too_deep_node (statement.While c limit body line) = first_of (condition_too_deep c) (first_line body)
  too_deep_node (statement.Call name arguments line) = first_line (map (λ e. too_deep e 0) arguments)

  abbrev pub statement_too_deep : Statement → Option ℕ
  statement_too_deep s = fold-Statement (Option ℕ) too_deep_node s

  abbrev pub statements_too_deep : List Statement → Option ℕ
  statements_too_deep statements = first_line (map statement_too_deep statements)

  -- ---- the whole: procedures come first
  abbrev pub declaration_too_deep : Declaration → Option ℕ
  declaration_too_deep (Var name range line) = None
  declaration_too_deep (Array name len range line) = None
  declaration_too_deep (Proc name params locals body line) = statements_too_deep body

  abbrev pub program_too_deep : Program → Option ℕ
  program_too_deep program =
      first_of (first_line (map declaration_too_deep program.declarations)) (statements_too_deep program.statements)
