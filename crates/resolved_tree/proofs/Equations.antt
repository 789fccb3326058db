-- What each node of a resolved tree means, by what its parts mean.
use Rattle.std.proofs.Common.{◌≡◌, ℕ, ℤ, List, [], ◌∷◌, map, refl, ap}
use Rattle.source_tree.specs.Scope.{Scope}
use Rattle.source_tree.specs.declared.expression.Operator.{Operator}
use Rattle.source_tree.specs.declared.statement.Statement.{Statement}
use Rattle.resolved_tree.specs.Meaning.{Evaluation, value_of_node, value_of, Doing, step_of_node, step_of}
use Rattle.resolved_tree.specs.Resolution.{resolved_statement, all_resolved, resolved_statements}
use Rattle.resolved_tree.specs.declared.slot.Slot.{Slot}
use Rattle.resolved_tree.specs.declared.tree.Argument.{Argument}
use Rattle.resolved_tree.specs.declared.tree.Target.{Target}
use Rattle.resolved_tree.specs.declared.tree.Test.{Test}
use Rattle.resolved_tree.specs.declared.tree.Value.{Value, Number, Integer, Element, Neg, Binary, fold-roll-Value, roll-Value}
use Rattle.resolved_tree.specs.declared.tree.Value.TheOpen as value
use Rattle.resolved_tree.specs.declared.tree.Step.{Step, Assign, Print, Read, If, For, While, Call, Skip, fold-roll-Step, roll-Step}
use Rattle.resolved_tree.specs.declared.tree.Step.TheOpen as step

-- ---- expressions

pub value-Number : (n : ℤ) → value_of (Number n)
    ≡ value_of_node (value.Number n)
unfolding roll-Value denote.Hole.Carrier.roll
value-Number n = fold-roll-Value Evaluation value_of_node (value.Number n)

pub value-Integer : (s : Slot) → value_of (Integer s)
    ≡ value_of_node (value.Integer s)
unfolding roll-Value denote.Hole.Carrier.roll
value-Integer s = fold-roll-Value Evaluation value_of_node (value.Integer s)

pub value-Element : (s : Slot) (index : Value) (line : ℕ) → value_of (Element s index line)
    ≡ value_of_node (value.Element s (value_of index) line)
unfolding roll-Value denote.Hole.Carrier.roll
value-Element s index line = fold-roll-Value Evaluation value_of_node (value.Element s index line)

pub value-Neg : (operand : Value) → value_of (Neg operand)
    ≡ value_of_node (value.Neg (value_of operand))
unfolding roll-Value denote.Hole.Carrier.roll
value-Neg operand = fold-roll-Value Evaluation value_of_node (value.Neg operand)

pub value-Binary : (left : Value) (operator : Operator) (right : Value) (line : ℕ) → value_of (Binary left operator right line)
    ≡ value_of_node (value.Binary (value_of left) operator (value_of right) line)
unfolding roll-Value denote.Hole.Carrier.roll
value-Binary left operator right line = fold-roll-Value Evaluation value_of_node (value.Binary left operator right line)

-- ---- statements

module _ (size : ℕ) where
  pub step-Assign : (place : Target) (v : Value) (line : ℕ) → step_of size (Assign place v line)
      ≡ step_of_node size (step.Assign place v line)
  unfolding roll-Step denote.Hole.Carrier.roll
  step-Assign place v line = fold-roll-Step Doing (step_of_node size) (step.Assign place v line)

  pub step-Print : (v : Value) → step_of size (Print v)
      ≡ step_of_node size (step.Print v)
  unfolding roll-Step denote.Hole.Carrier.roll
  step-Print v = fold-roll-Step Doing (step_of_node size) (step.Print v)

  pub step-Read : (place : Target) (line : ℕ) → step_of size (Read place line)
      ≡ step_of_node size (step.Read place line)
  unfolding roll-Step denote.Hole.Carrier.roll
  step-Read place line = fold-roll-Step Doing (step_of_node size) (step.Read place line)

  pub step-If : (test : Test) (first second : List Step) → step_of size (If test first second)
      ≡ step_of_node size (step.If test (map (step_of size) first) (map (step_of size) second))
  unfolding roll-Step denote.Hole.Carrier.roll
  step-If test first second = fold-roll-Step Doing (step_of_node size) (step.If test first second)

  pub step-For : (s : Slot) (first last : Value) (body : List Step) (line : ℕ) → step_of size (For s first last body line)
      ≡ step_of_node size (step.For s first last (map (step_of size) body) line)
  unfolding roll-Step denote.Hole.Carrier.roll
  step-For s first last body line = fold-roll-Step Doing (step_of_node size) (step.For s first last body line)

  pub step-While : (test : Test) (limit : ℤ) (body : List Step) (line : ℕ) → step_of size (While test limit body line)
      ≡ step_of_node size (step.While test limit (map (step_of size) body) line)
  unfolding roll-Step denote.Hole.Carrier.roll
  step-While test limit body line = fold-roll-Step Doing (step_of_node size) (step.While test limit body line)

  pub step-Call : (k : ℕ) (arguments : List Argument) (line : ℕ) → step_of size (Call k arguments line)
      ≡ step_of_node size (step.Call k arguments line)
  unfolding roll-Step denote.Hole.Carrier.roll
  step-Call k arguments line = fold-roll-Step Doing (step_of_node size) (step.Call k arguments line)

  pub step-Skip : step_of size Skip
      ≡ step_of_node size step.Skip
  unfolding roll-Step denote.Hole.Carrier.roll
  step-Skip = fold-roll-Step Doing (step_of_node size) step.Skip

-- ---- statements, one after another
pub all_resolved-map : (l : List Statement) (scope : Scope) → all_resolved (map resolved_statement l) scope ≡ resolved_statements l scope
all_resolved-map [] scope = refl
all_resolved-map (s ∷ l) scope = ap (λ steps. resolved_statement s scope ∷ steps) (all_resolved-map l scope)
