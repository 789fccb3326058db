-- Induction over trees, node by node; and laws of what nodes mean, carried to trees.
use Rattle.std.proofs.Common.{◌≡◌, ℕ, ℤ, List, [], ◌∷◌, map, sym, subst}
use Rattle.source_tree.specs.Expression.{Evaluation, evaluation, evaluation_of_node}
use Rattle.source_tree.specs.Statement.{Execution, execution_by, execution_of_node}
use Rattle.source_tree.specs.declared.name.Name.{Name as SourceName}
use Rattle.source_tree.specs.declared.expression.Operator.{Operator}
use Rattle.source_tree.specs.declared.expression.Condition.{Condition}
use Rattle.source_tree.specs.declared.expression.Expr.{Expr, Number, Name, Element, Neg, Binary, ind-Expr, roll-Expr, map-Expr}
use Rattle.source_tree.specs.declared.expression.Expr.TheOpen as expr
use Rattle.source_tree.specs.declared.statement.Place.{Place}
use Rattle.source_tree.specs.declared.statement.Statement.{Statement, Assign, Print, Read, If, For, While, Call, ind-Statement, roll-Statement, map-Statement}
use Rattle.source_tree.specs.declared.statement.Statement.TheOpen as statement
use Rattle.source_tree.proofs.FoldEquations.{fold-Number, fold-Name, fold-Element, fold-Neg, fold-Binary, fold-Assign, fold-Print, fold-Read, fold-If, fold-For, fold-While, fold-Call}

-- P holds of each member of a list
abbrev pub EachOf : {A : Type 0} → (A → Type 0) → List A → Type 0
EachOf P [] = Unit {0}
EachOf P (x ∷ xs) = P x × EachOf P xs

each_is : {A : Type 0} (P : A → Type 0) (l : List ((x : A) × P x)) → EachOf P (map (λ e. e.0) l)
each_is P [] = tt
each_is P (e ∷ l) = (e.1, each_is P l)

pub each_of : {A : Type 0} (P : A → Type 0) → ((x : A) → P x) → (l : List A) → EachOf P l
each_of P h [] = tt
each_of P h (x ∷ l) = (h x, each_of P h l)

pub each_mapped : {A B : Type 0} (P : B → Type 0) (f : A → B) (l : List A) → EachOf (λ x. P (f x)) l → EachOf P (map f l)
each_mapped P f [] h = tt
each_mapped P f (x ∷ l) h = (h.0, each_mapped P f l h.1)

-- ---- expressions
module _ (P : Expr → Type 0)
    (number : (value : ℤ) (line : ℕ) → P (Number value line))
    (name : (x : SourceName) → P (Name x))
    (element : (x : SourceName) (index : Expr) → P index → P (Element x index))
    (neg : (operand : Expr) (line : ℕ) → P operand → P (Neg operand line))
    (binary : (left : Expr) (o : Operator) (right : Expr) (line : ℕ) → P left → P right → P (Binary left o right line)) where
  of_expr_node : (y : expr.Expr-F ((e : Expr) × P e)) → P (roll-Expr (map-Expr ((e : Expr) × P e) Expr (λ e. e.0) y))
  unfolding roll-Expr denote.Hole.Carrier.roll
  of_expr_node (expr.Number value line) = number value line
  of_expr_node (expr.Name x) = name x
  of_expr_node (expr.Element x index) = element x index.0 index.1
  of_expr_node (expr.Neg operand line) = neg operand.0 line operand.1
  of_expr_node (expr.Binary left o right line) = binary left.0 o right.0 line left.1 right.1

  pub each_expr : (e : Expr) → P e
  each_expr = ind-Expr P (λ x y is. subst (λ z. P (roll-Expr z)) is (of_expr_node y))

-- ---- statements
module _ (P : Statement → Type 0)
    (assign : (place : Place) (value : Expr) (line : ℕ) → P (Assign place value line))
    (print : (value : Expr) (line : ℕ) → P (Print value line))
    (read : (place : Place) (line : ℕ) → P (Read place line))
    (choice : (condition : Condition) (first second : List Statement) (line : ℕ)
    → EachOf P first → EachOf P second → P (If condition first second line))
    (for_loop : (x : SourceName) (first last : Expr) (body : List Statement) (line : ℕ)
    → EachOf P body → P (For x first last body line))
    (while_loop : (condition : Condition) (limit : ℤ) (body : List Statement) (line : ℕ)
    → EachOf P body → P (While condition limit body line))
    (call : (x : SourceName) (arguments : List Expr) (line : ℕ) → P (Call x arguments line)) where
  of_statement_node : (y : statement.Statement-F ((s : Statement) × P s))
      → P (roll-Statement (map-Statement ((s : Statement) × P s) Statement (λ e. e.0) y))
  unfolding roll-Statement denote.Hole.Carrier.roll
  of_statement_node (statement.Assign place value line) = assign place value line
  of_statement_node (statement.Print value line) = print value line
  of_statement_node (statement.Read place line) = read place line
  of_statement_node (statement.If condition first second line) =
      choice condition (map (λ e. e.0) first) (map (λ e. e.0) second) line (each_is P first) (each_is P second)
  of_statement_node (statement.For x first last body line) = for_loop x first last (map (λ e. e.0) body) line (each_is P body)
  of_statement_node (statement.While condition limit body line) =
      while_loop condition limit (map (λ e. e.0) body) line (each_is P body)
  of_statement_node (statement.Call x arguments line) = call x arguments line

  pub each_statement : (s : Statement) → P s
  each_statement = ind-Statement P (λ x y is. subst (λ z. P (roll-Statement z)) is (of_statement_node y))

-- ---- laws of what nodes mean
module _ (P : Evaluation → Type 0)
    (number : (value : ℤ) (line : ℕ) → P (evaluation_of_node (expr.Number value line)))
    (name : (x : SourceName) → P (evaluation_of_node (expr.Name x)))
    (element : (x : SourceName) (index : Evaluation) → P index → P (evaluation_of_node (expr.Element x index)))
    (neg : (operand : Evaluation) (line : ℕ) → P operand → P (evaluation_of_node (expr.Neg operand line)))
    (binary : (left : Evaluation) (o : Operator) (right : Evaluation) (line : ℕ)
    → P left → P right → P (evaluation_of_node (expr.Binary left o right line))) where
  at_expr : (e : Expr) (v : Evaluation) → evaluation e ≡ v → P v → P (evaluation e)
  at_expr e v is h = subst P (sym is) h

  pub each_evaluation : (e : Expr) → P (evaluation e)
  each_evaluation =
      each_expr (λ e. P (evaluation e))
      (λ value line. at_expr (Number value line) _ (fold-Number evaluation_of_node value line) (number value line))
      (λ x. at_expr (Name x) _ (fold-Name evaluation_of_node x) (name x))
      (λ x index h. at_expr (Element x index) _ (fold-Element evaluation_of_node x index) (element x (evaluation index) h))
      (λ operand line h. at_expr (Neg operand line) _ (fold-Neg evaluation_of_node operand line) (neg (evaluation operand) line h))
      (λ left o right line h k.
      at_expr (Binary left o right line) _ (fold-Binary evaluation_of_node left o right line)
      (binary (evaluation left) o (evaluation right) line h k))

module _ (meant : Expr → Evaluation) (P : Execution → Type 0)
    (assign : (place : Place) (value : Expr) (line : ℕ) → P (execution_of_node meant (statement.Assign place value line)))
    (print : (value : Expr) (line : ℕ) → P (execution_of_node meant (statement.Print value line)))
    (read : (place : Place) (line : ℕ) → P (execution_of_node meant (statement.Read place line)))
    (choice : (condition : Condition) (first second : List Execution) (line : ℕ)
    → EachOf P first → EachOf P second → P (execution_of_node meant (statement.If condition first second line)))
    (for_loop : (x : SourceName) (first last : Expr) (body : List Execution) (line : ℕ)
    → EachOf P body → P (execution_of_node meant (statement.For x first last body line)))
    (while_loop : (condition : Condition) (limit : ℤ) (body : List Execution) (line : ℕ)
    → EachOf P body → P (execution_of_node meant (statement.While condition limit body line)))
    (call : (x : SourceName) (arguments : List Expr) (line : ℕ)
    → P (execution_of_node meant (statement.Call x arguments line))) where
  at_statement : (s : Statement) (v : Execution) → execution_by meant s ≡ v → P v → P (execution_by meant s)
  at_statement s v is h = subst P (sym is) h

  mapped : (l : List Statement) → EachOf (λ s. P (execution_by meant s)) l → EachOf P (map (execution_by meant) l)
  mapped l h = each_mapped P (execution_by meant) l h

  pub each_execution : (s : Statement) → P (execution_by meant s)
  each_execution =
      each_statement (λ s. P (execution_by meant s))
      (λ place value line.
      at_statement (Assign place value line) _ (fold-Assign (execution_of_node meant) place value line) (assign place value line))
      (λ value line. at_statement (Print value line) _ (fold-Print (execution_of_node meant) value line) (print value line))
      (λ place line. at_statement (Read place line) _ (fold-Read (execution_of_node meant) place line) (read place line))
      (λ condition first second line h k.
      at_statement (If condition first second line) _ (fold-If (execution_of_node meant) condition first second line)
      (choice condition (map (execution_by meant) first) (map (execution_by meant) second) line (mapped first h) (mapped second k)))
      (λ x first last body line h.
      at_statement (For x first last body line) _ (fold-For (execution_of_node meant) x first last body line)
      (for_loop x first last (map (execution_by meant) body) line (mapped body h)))
      (λ condition limit body line h.
      at_statement (While condition limit body line) _ (fold-While (execution_of_node meant) condition limit body line)
      (while_loop condition limit (map (execution_by meant) body) line (mapped body h)))
      (λ x arguments line. at_statement (Call x arguments line) _ (fold-Call (execution_of_node meant) x arguments line) (call x arguments line))

pub each_in_order : (meant : Expr → Evaluation) (P : Execution → Type 0)
    → ((s : Statement) → P (execution_by meant s)) → (l : List Statement) → EachOf P (map (execution_by meant) l)
each_in_order meant P h l = each_mapped P (execution_by meant) l (each_of (λ s. P (execution_by meant s)) h l)
