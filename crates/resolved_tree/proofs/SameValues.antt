-- The value of a resolved expression is what the expression means, with each value tested to be a word.
use Rattle.std.proofs.Common.{◌≡◌, ℕ, ℤ, refl, sym, ap, ◌∙◌, Option, Some, None}
use Rattle.std.specs.Prelude.{neg_ℤ, Bool}
use Rattle.plain_text.specs.Lookup.{lookup}
use Rattle.source_tree.specs.State.{State}
use Rattle.source_tree.specs.Run.{Run, visit, returns, happens, and_then}
use Rattle.source_tree.specs.Scope.{Declared, variable, array, procedure, Scope, integer_of, range_of, has_element}
use Rattle.source_tree.specs.Expression.{Calls, Evaluation, element_or_trap, operator_result}
use Rattle.source_tree.specs.Statement.{holds, test_of}
use Rattle.source_tree.specs.declared.name.Name.{Name as SourceName}
use Rattle.source_tree.specs.declared.expression.Operator.{Operator}
use Rattle.source_tree.specs.declared.expression.Condition.{Condition}
use Rattle.source_tree.specs.declared.expression.Expr.{Expr, Number, Name, Element, Neg, Binary}
use Rattle.source_tree.proofs.RunLaws.{and_then_assoc}
use Rattle.source_tree.proofs.Inductions.{each_expr}
use Rattle.range_inference.specs.Watched.{Watched, watched, watched_evaluation, watched_node}
use Rattle.range_inference.specs.declared.interval.Interval.{Interval}
use Rattle.resolved_tree.specs.Meaning.{elsewhere, kept, value_of, tested}
use Rattle.resolved_tree.specs.Resolution.{resolved_expr, resolved_condition, slot_at, resolved_expr_node}
use Rattle.resolved_tree.specs.Slots.{slot_of, declared_of, is_word}
use Rattle.resolved_tree.specs.declared.tree.Value.{Value}
use Rattle.resolved_tree.proofs.Equations.{value-Number, value-Integer, value-Element, value-Neg, value-Binary}
use Rattle.source_tree.proofs.FoldEquations.{fold-Number, fold-Name, fold-Element, fold-Neg, fold-Binary}

-- ---- what a name stands for, and its slot
integer_same : (o : Option Declared) (state : State) → integer_of (declared_of (slot_of o)) state ≡ integer_of o state
integer_same (Some (variable k range)) state = refl
integer_same (Some (array k len range)) state = refl
integer_same (Some (procedure k params)) state = refl
integer_same None state = refl

pub range_same : (o : Option Declared) → range_of (declared_of (slot_of o)) ≡ range_of o
range_same (Some (variable k range)) = refl
range_same (Some (array k len range)) = refl
range_same (Some (procedure k params)) = refl
range_same None = refl

pub has_same : (o : Option Declared) (i : ℤ) → has_element (declared_of (slot_of o)) i ≡ has_element o i
has_same (Some (variable k range)) i = refl
has_same (Some (array k len range)) i = refl
has_same (Some (procedure k params)) i = refl
has_same None i = refl

element_same : (o : Option Declared) (i : ℤ) (line : ℕ) (state : State)
    → element_or_trap (declared_of (slot_of o)) i line state ≡ element_or_trap o i line state
element_same (Some (variable k range)) i line state = refl
element_same (Some (array k len range)) i line state = refl
element_same (Some (procedure k params)) i line state = refl
element_same None i line state = refl

-- ---- expressions with each value tested
abbrev pub tests_word : Interval → ℤ → Bool
tests_word interval x = is_word x

abbrev pub worded : Expr → Watched
worded e = watched tests_word elsewhere e

abbrev pub watching : Expr → Evaluation
watching e = watched_evaluation tests_word elsewhere e

abbrev pub SameValue : Expr → Type 0
SameValue e = (scope : Scope) (calls : Calls) (state : State) → value_of (resolved_expr e scope) state ≡ watching e scope calls state

join : (e : Expr) (resolved : Scope → Value) (w : Watched) → resolved_expr e ≡ resolved → worded e ≡ w
    → ((scope : Scope) (calls : Calls) (state : State) → value_of (resolved scope) state ≡ w.evaluation scope calls state)
    → SameValue e
join e resolved w is is_worded same scope calls state =
    ap (λ r. value_of (r scope) state) is ∙ same scope calls state ∙ sym (ap (λ (v : Watched). v.evaluation scope calls state) is_worded)

number_same : (n : ℤ) (line : ℕ) → SameValue (Number n line)
number_same n line =
    join (Number n line) _ _ (fold-Number resolved_expr_node n line) (fold-Number (watched_node tests_word elsewhere) n line)
    (λ scope calls state. ap (λ v. v state) (value-Number n))

name_same : (name : SourceName) → SameValue (Name name)
name_same name =
    join (Name name) _ _ (fold-Name resolved_expr_node name) (fold-Name (watched_node tests_word elsewhere) name)
    (λ scope calls state.
    ap (λ v. v state) (value-Integer (slot_at name scope))
    ∙ ap (λ x. happens visit (kept x state)) (integer_same (lookup name.bytes scope) state))

element_is_same : (name : SourceName) (index : Expr) → SameValue index → SameValue (Element name index)
element_is_same name index same =
    join (Element name index) _ _ (fold-Element resolved_expr_node name index) (fold-Element (watched_node tests_word elsewhere) name index)
    (λ scope calls state.
    let o = lookup name.bytes scope in
    let run = watching index scope calls state in
    ap (λ v. v state) (value-Element (slot_at name scope) (resolved_expr index scope) name.line)
    ∙ ap (λ (r : Run ℤ). happens visit (and_then r (λ i after. and_then (element_or_trap (declared_of (slot_of o)) i name.line after) kept))) (same scope calls state)
    ∙ (λ j. happens visit (and_then run (λ i after. and_then (element_same o i name.line after j) kept)))
    ∙ ap (λ (r : Run ℤ). happens visit r) (sym (and_then_assoc run (λ i. element_or_trap o i name.line) kept)))

neg_same : (operand : Expr) (line : ℕ) → SameValue operand → SameValue (Neg operand line)
neg_same operand line same =
    join (Neg operand line) _ _ (fold-Neg resolved_expr_node operand line) (fold-Neg (watched_node tests_word elsewhere) operand line)
    (λ scope calls state.
    ap (λ v. v state) (value-Neg (resolved_expr operand scope))
    ∙ ap (λ (r : Run ℤ). happens visit (and_then r (λ x. kept (neg_ℤ x)))) (same scope calls state)
    ∙ ap (λ (r : Run ℤ). happens visit r) (sym (and_then_assoc (watching operand scope calls state) (λ x. returns (neg_ℤ x)) kept)))

binary_same : (left : Expr) (o : Operator) (right : Expr) (line : ℕ) → SameValue left → SameValue right → SameValue (Binary left o right line)
binary_same left o right line first second =
    join (Binary left o right line) _ _ (fold-Binary resolved_expr_node left o right line) (fold-Binary (watched_node tests_word elsewhere) left o right line)
    (λ scope calls state.
    let run = watching left scope calls state in
    ap (λ v. v state) (value-Binary (resolved_expr left scope) o (resolved_expr right scope) line)
    ∙ (λ j. happens visit (and_then (first scope calls state j) (λ x after. and_then (second scope calls after j) (λ y later. and_then (operator_result o x y line later) kept))))
    ∙ (λ j. happens visit (and_then run (λ x after. sym (and_then_assoc (watching right scope calls after) (λ y. operator_result o x y line) kept) j)))
    ∙ ap (λ (r : Run ℤ). happens visit r) (sym (and_then_assoc run (λ x after. and_then (watching right scope calls after) (λ y. operator_result o x y line)) kept)))

pub value_same : (e : Expr) → SameValue e
value_same = each_expr SameValue number_same name_same element_is_same neg_same binary_same

-- ---- conditions
pub test_same : (condition : Condition) (scope : Scope) (calls : Calls) (state : State)
    → tested (resolved_condition condition scope) state ≡ test_of watching condition scope calls state
test_same condition scope calls state =
    λ j. happens visit (and_then (value_same condition.left scope calls state j) (λ x after. and_then (value_same condition.right scope calls after j) (λ y.
    returns (holds condition.comparison x y))))
