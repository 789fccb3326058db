-- What an expression means.
use Rattle.std.specs.Prelude.{ℕ, ℤ, pos, neg_ℤ, ◌+ℤ◌, ◌-ℤ◌, ◌*ℤ◌, List, Option, if◌then◌else◌, ⊤}
use Rattle.std.specs.Ordering.{int_eq}
use Rattle.moduli_sets.specs.declared.kind.Kind.TheVariants.{Zero, Index}
use Rattle.plain_text.specs.Lookup.{lookup}
use Rattle.number_theory.specs.Division.{floor_div, floor_mod}
use Rattle.source_tree.specs.State.{State}
use Rattle.source_tree.specs.Run.{Run, visit, returns, traps, happens, and_then}
use Rattle.source_tree.specs.Scope.{Scope, Declared, integer_at, has_element, element_of}
use Rattle.source_tree.specs.declared.expression.Operator.{Operator}
use Rattle.source_tree.specs.declared.expression.Operator.TheVariants.{Add, Sub, Mul, Div, Mod}
use Rattle.source_tree.specs.declared.expression.Expr.{Expr, fold-Expr}
use Rattle.source_tree.specs.declared.expression.Expr.TheOpen.{Expr-F, Number, Name, Element, Neg, Binary}

-- what a call of the procedure of a number does, with given arguments
abbrev pub Calls : Type 0
Calls = ℕ → List ℤ → State → Run ⊤

-- what an expression does in a scope, with the calls of the procedures, from a state on
abbrev pub Evaluation : Type 0
Evaluation = Scope → Calls → State → Run ℤ

-- a quotient or remainder, or a trap where the divisor is 0
abbrev pub quotient_or_trap : (ℤ → ℤ → ℤ) → ℤ → ℤ → ℕ → State → Run ℤ
quotient_or_trap operation x y line state = if int_eq y (pos 0) then traps Zero line else returns (operation x y) state

abbrev pub operator_result : Operator → ℤ → ℤ → ℕ → State → Run ℤ
operator_result Add x y line state = returns (x +ℤ y) state
operator_result Sub x y line state = returns (x -ℤ y) state
operator_result Mul x y line state = returns (x *ℤ y) state
operator_result Div x y line state = quotient_or_trap floor_div x y line state
operator_result Mod x y line state = quotient_or_trap floor_mod x y line state

-- an element, or a trap where there is none of this number
abbrev pub element_or_trap : Option Declared → ℤ → ℕ → State → Run ℤ
element_or_trap a i line state = if has_element a i then returns (element_of a i state) state else traps Index line

-- a node, from what its operands or its index mean
abbrev pub evaluation_of_node : Expr-F Evaluation → Evaluation
evaluation_of_node (Number value line) scope calls state = happens visit (returns value state)
evaluation_of_node (Name name) scope calls state = happens visit (returns (integer_at scope name.bytes state) state)
evaluation_of_node (Element name index) scope calls state =
    happens visit (and_then (index scope calls state) (λ i. element_or_trap (lookup name.bytes scope) i name.line))
evaluation_of_node (Neg operand line) scope calls state =
    happens visit (and_then (operand scope calls state) (λ x. returns (neg_ℤ x)))
evaluation_of_node (Binary left operator right line) scope calls state =
    happens visit (and_then (left scope calls state) (λ x after. and_then (right scope calls after) (λ y.
    operator_result operator x y line)))

abbrev pub evaluation : Expr → Evaluation
evaluation e = fold-Expr Evaluation evaluation_of_node e
