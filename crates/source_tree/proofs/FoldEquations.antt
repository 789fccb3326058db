-- A fold over a tree at each kind of node.
use Rattle.std.specs.Prelude.{◌≡◌, ℕ, ℤ, List, map}
use Rattle.source_tree.specs.declared.name.Name.{Name as SourceName}
use Rattle.source_tree.specs.declared.expression.Operator.{Operator}
use Rattle.source_tree.specs.declared.expression.Condition.{Condition}
use Rattle.source_tree.specs.declared.expression.Expr.{Expr, Number, Name, Element, Neg, Binary, fold-Expr, fold-roll-Expr, roll-Expr}
use Rattle.source_tree.specs.declared.expression.Expr.TheOpen as expr
use Rattle.source_tree.specs.declared.statement.Place.{Place}
use Rattle.source_tree.specs.declared.statement.Statement.{Statement, Assign, Print, Read, If, For, While, Call, fold-Statement, fold-roll-Statement, roll-Statement}
use Rattle.source_tree.specs.declared.statement.Statement.TheOpen as statement

-- ---- expressions
module _ {A : Type 0} (of : expr.Expr-F A → A) where
  pub fold-Number : (value : ℤ) (line : ℕ) → fold-Expr A of (Number value line) ≡ of (expr.Number value line)
  unfolding roll-Expr denote.Hole.Carrier.roll
  fold-Number value line = fold-roll-Expr A of (expr.Number value line)

  pub fold-Name : (name : SourceName) → fold-Expr A of (Name name) ≡ of (expr.Name name)
  unfolding roll-Expr denote.Hole.Carrier.roll
  fold-Name name = fold-roll-Expr A of (expr.Name name)

  pub fold-Element : (name : SourceName) (index : Expr) → fold-Expr A of (Element name index) ≡ of (expr.Element name (fold-Expr A of index))
  unfolding roll-Expr denote.Hole.Carrier.roll
  fold-Element name index = fold-roll-Expr A of (expr.Element name index)

  pub fold-Neg : (operand : Expr) (line : ℕ) → fold-Expr A of (Neg operand line) ≡ of (expr.Neg (fold-Expr A of operand) line)
  unfolding roll-Expr denote.Hole.Carrier.roll
  fold-Neg operand line = fold-roll-Expr A of (expr.Neg operand line)

  pub fold-Binary : (left : Expr) (operator : Operator) (right : Expr) (line : ℕ)
      → fold-Expr A of (Binary left operator right line) ≡ of (expr.Binary (fold-Expr A of left) operator (fold-Expr A of right) line)
  unfolding roll-Expr denote.Hole.Carrier.roll
  fold-Binary left operator right line = fold-roll-Expr A of (expr.Binary left operator right line)

-- ---- statements
module _ {A : Type 0} (of : statement.Statement-F A → A) where
  pub fold-Assign : (place : Place) (value : Expr) (line : ℕ) → fold-Statement A of (Assign place value line) ≡ of (statement.Assign place value line)
  unfolding roll-Statement denote.Hole.Carrier.roll
  fold-Assign place value line = fold-roll-Statement A of (statement.Assign place value line)

  pub fold-Print : (value : Expr) (line : ℕ) → fold-Statement A of (Print value line) ≡ of (statement.Print value line)
  unfolding roll-Statement denote.Hole.Carrier.roll
  fold-Print value line = fold-roll-Statement A of (statement.Print value line)

  pub fold-Read : (place : Place) (line : ℕ) → fold-Statement A of (Read place line) ≡ of (statement.Read place line)
  unfolding roll-Statement denote.Hole.Carrier.roll
  fold-Read place line = fold-roll-Statement A of (statement.Read place line)

  pub fold-If : (condition : Condition) (first second : List Statement) (line : ℕ) → fold-Statement A of (If condition first second line)
      ≡ of (statement.If condition (map (fold-Statement A of) first) (map (fold-Statement A of) second) line)
  unfolding roll-Statement denote.Hole.Carrier.roll
  fold-If condition first second line = fold-roll-Statement A of (statement.If condition first second line)

  pub fold-For : (name : SourceName) (first last : Expr) (body : List Statement) (line : ℕ)
      → fold-Statement A of (For name first last body line) ≡ of (statement.For name first last (map (fold-Statement A of) body) line)
  unfolding roll-Statement denote.Hole.Carrier.roll
  fold-For name first last body line = fold-roll-Statement A of (statement.For name first last body line)

  pub fold-While : (condition : Condition) (limit : ℤ) (body : List Statement) (line : ℕ)
      → fold-Statement A of (While condition limit body line) ≡ of (statement.While condition limit (map (fold-Statement A of) body) line)
  unfolding roll-Statement denote.Hole.Carrier.roll
  fold-While condition limit body line = fold-roll-Statement A of (statement.While condition limit body line)

  pub fold-Call : (name : SourceName) (arguments : List Expr) (line : ℕ) → fold-Statement A of (Call name arguments line) ≡ of (statement.Call name arguments line)
  unfolding roll-Statement denote.Hole.Carrier.roll
  fold-Call name arguments line = fold-roll-Statement A of (statement.Call name arguments line)
