-- What a statement means, by what expressions mean.
use Rattle.std.specs.Prelude.{ℕ, zero, suc, ℤ, pos, ◌+◌, ◌+ℤ◌, ◌-ℤ◌, List, [], ◌∷◌, map, Bool, not, if◌then◌else◌, Option, Some, None, int_lt, int_le, unsigned_abs, ⊤}
use Rattle.std.specs.Ordering.{int_eq}
use Rattle.plain_text.specs.Lookup.{lookup}
use Rattle.moduli_sets.specs.declared.kind.Kind.{Kind}
use Rattle.moduli_sets.specs.declared.kind.Kind.TheVariants as kind
use Rattle.source_tree.specs.State.{State}
use Rattle.source_tree.specs.Run.{Run, visit, print, returns, traps, happens, and_then}
use Rattle.source_tree.specs.Scope.{Declared, procedure, variable, array, Scope, is_within, range_at, with_integer_at, has_element, with_element_of}
use Rattle.source_tree.specs.Expression.{Calls, Evaluation, evaluation}
use Rattle.source_tree.specs.declared.name.Range.{Range}
use Rattle.source_tree.specs.declared.expression.Expr.{Expr}
use Rattle.source_tree.specs.declared.expression.Condition.{Condition}
use Rattle.source_tree.specs.declared.expression.Comparison.{Comparison}
use Rattle.source_tree.specs.declared.expression.Comparison.TheVariants.{Less, LessEqual, Greater, GreaterEqual, Equal, NotEqual}
use Rattle.source_tree.specs.declared.statement.Place.{Place}
use Rattle.source_tree.specs.declared.statement.Place.TheVariants.{Name, Element}
use Rattle.source_tree.specs.declared.statement.Statement.{Statement, fold-Statement}
use Rattle.source_tree.specs.declared.statement.Statement.TheOpen.{Statement-F, Assign, Print, Read, If, For, While, Call}

-- what a statement does in a scope, with the calls of the procedures, from a state on
abbrev pub Execution : Type 0
Execution = Scope → Calls → State → Run ⊤

abbrev pub nothing_done : State → Run ⊤
nothing_done state = returns tt state

-- statements, one after another
abbrev pub in_order : List Execution → Execution
in_order [] scope calls state = nothing_done state
in_order (first ∷ more) scope calls state = and_then (first scope calls state) (λ u after. in_order more scope calls after)

-- ---- conditions
abbrev pub holds : Comparison → ℤ → ℤ → Bool
holds Less x y = int_lt x y
holds LessEqual x y = int_le x y
holds Greater x y = int_lt y x
holds GreaterEqual x y = int_le y x
holds Equal x y = int_eq x y
holds NotEqual x y = not (int_eq x y)

-- what a condition does, and whether it holds
abbrev pub Test : Type 0
Test = Scope → Calls → State → Run Bool

abbrev pub compared : Evaluation → Comparison → Evaluation → Test
compared left comparison right scope calls state =
    happens visit (and_then (left scope calls state) (λ x after. and_then (right scope calls after) (λ y.
    returns (holds comparison x y))))

-- ---- places
-- a value into a variable, parameter or local, or a trap where its range hasn't it
abbrev pub put_into_name : List ℕ → ℤ → Kind → ℕ → Scope → State → Run ⊤
put_into_name x value trap line scope state =
    if is_within value (range_at scope x) then nothing_done (with_integer_at scope x value state) else traps trap line

-- a value into element i, or a trap where there is none of this number
abbrev pub put_into_element : Option Declared → ℤ → ℕ → ℤ → State → Run ⊤
put_into_element a value index_line i state =
    if has_element a i then nothing_done (with_element_of a i value state) else traps kind.Index index_line

abbrev pub line_of : Place → ℕ
line_of (Name name) = name.line
line_of (Element name index) = name.line

-- ---- loops
-- the turns that are left of a `for`, with the integer of the next
abbrev pub for_turns : ℕ → ℤ → List ℕ → ℕ → Execution → Execution
for_turns zero next x line body scope calls state = nothing_done state
for_turns (suc turns) next x line body scope calls state =
    happens visit (
    if is_within next (range_at scope x)
    then and_then (body scope calls (with_integer_at scope x next state)) (λ u after.
    for_turns turns (next +ℤ pos 1) x line body scope calls after)
    else traps kind.Range line)

-- how many integers there are from a to b
abbrev pub turns_of : ℤ → ℤ → ℕ
turns_of a b = if int_lt b a then 0 else unsigned_abs (b -ℤ a) + 1

-- a `while` of which so many turns are left
abbrev pub while_turns : ℕ → Test → ℕ → Execution → Execution
while_turns zero test line body scope calls state =
    and_then (test scope calls state) (λ again after. if again then traps kind.Turns line else nothing_done after)
while_turns (suc turns) test line body scope calls state =
    and_then (test scope calls state) (λ again after.
    if again
    then happens visit (and_then (body scope calls after) (λ u later. while_turns turns test line body scope calls later))
    else nothing_done after)

-- ---- calls
-- The values of arguments, each tested by the range of its parameter as soon as it is there. They are held apart from
-- the parameters until all are there. An argument without a parameter is not evaluated.
abbrev pub argument_values : List Evaluation → List Range → ℕ → Scope → Calls → State → Run (List ℤ)
argument_values [] parameters line scope calls state = returns [] state
argument_values (argument ∷ arguments) [] line scope calls state = returns [] state
argument_values (argument ∷ arguments) (range ∷ parameters) line scope calls state =
    and_then (argument scope calls state) (λ x after.
    if is_within x range
    then and_then (argument_values arguments parameters line scope calls after) (λ xs. returns (x ∷ xs))
    else traps kind.Range line)

-- what is no procedure does nothing
abbrev pub procedure_call : Option Declared → List Evaluation → ℕ → Execution
procedure_call (Some (procedure k parameters)) arguments line scope calls state =
    and_then (argument_values arguments parameters line scope calls state) (calls k)
procedure_call (Some (variable k range)) arguments line scope calls state = nothing_done state
procedure_call (Some (array k len range)) arguments line scope calls state = nothing_done state
procedure_call None arguments line scope calls state = nothing_done state

-- ---- statements, by what expressions mean
module _ (meant : Expr → Evaluation) where
  abbrev pub test_of : Condition → Test
  test_of condition = compared (meant condition.left) condition.comparison (meant condition.right)

  -- A value into a place. The range comes first, with a trap of a kind and a line; then an element's number, with a trap
  -- at a line of its own.
  abbrev pub put_into : Place → ℤ → Kind → ℕ → ℕ → Execution
  put_into (Name name) value trap line index_line scope calls state = put_into_name name.bytes value trap line scope state
  put_into (Element name index) value trap line index_line scope calls state =
      if is_within value (range_at scope name.bytes)
      then and_then (meant index scope calls state) (put_into_element (lookup name.bytes scope) value index_line)
      else traps trap line

  -- the next number of the input is put into a place
  abbrev pub read_into : Place → ℕ → List ℤ → Execution
  read_into place line [] scope calls state = traps kind.InputEnd line
  read_into place line (number ∷ rest) scope calls state =
      put_into place number kind.InputRange line (line_of place) scope calls (record state { input = rest })

  -- a statement, from what the statements in it do
  abbrev pub execution_of_node : Statement-F Execution → Execution
  execution_of_node (Assign place value line) scope calls state =
      happens visit (and_then (meant value scope calls state) (λ x. put_into place x kind.Range line line scope calls))
  execution_of_node (Print value line) scope calls state =
      happens visit (and_then (meant value scope calls state) (λ x after. happens (print x) (nothing_done after)))
  execution_of_node (Read place line) scope calls state = happens visit (read_into place line state.input scope calls state)
  execution_of_node (If condition first second line) scope calls state =
      happens visit (and_then (test_of condition scope calls state) (λ chosen after.
      if chosen then in_order first scope calls after else in_order second scope calls after))
  execution_of_node (For name first last body line) scope calls state =
      happens visit (and_then (meant first scope calls state) (λ a after. and_then (meant last scope calls after) (λ b.
      for_turns (turns_of a b) a name.bytes line (in_order body) scope calls)))
  execution_of_node (While condition limit body line) scope calls state =
      happens visit (while_turns (unsigned_abs limit) (test_of condition) line (in_order body) scope calls state)
  execution_of_node (Call name arguments line) scope calls state =
      happens visit (procedure_call (lookup name.bytes scope) (map meant arguments) line scope calls state)

  abbrev pub execution_by : Statement → Execution
  execution_by s = fold-Statement Execution execution_of_node s

abbrev pub execution : Statement → Execution
execution s = execution_by evaluation s
