-- What a resolved tree means, over the integers and arrays at the numbers of declared names.
--
-- It is what its source means, but for two things that no source does whose intervals lie in the range of a set: a value
-- beyond the 128 bits of a word, or an integer put at a number that isn't declared, leads elsewhere, to a trap that no
-- source ends with.
use Rattle.std.specs.Prelude.{ℕ, zero, suc, ℤ, pos, neg_ℤ, ◌+◌, ◌+ℤ◌, List, [], ◌∷◌, length, map, Bool, if◌then◌else◌, ⊤, nat_lt, slice_index_or, unsigned_abs}
use Rattle.moduli_sets.specs.declared.kind.Kind.{Kind}
use Rattle.moduli_sets.specs.declared.kind.Kind.TheVariants as kind
use Rattle.source_tree.specs.State.{State, with_at, with_integer}
use Rattle.source_tree.specs.Run.{Run, visit, print, returns, traps, happens, and_then}
use Rattle.source_tree.specs.Scope.{is_within, integer_of, range_of, has_element, with_element_of}
use Rattle.source_tree.specs.Expression.{Calls, operator_result, element_or_trap}
use Rattle.source_tree.specs.Statement.{nothing_done, holds, turns_of}
use Rattle.source_tree.specs.Meaning.{no_calls}
use Rattle.resolved_tree.specs.Slots.{declared_of, start_integer, start_elements, is_word}
use Rattle.resolved_tree.specs.declared.slot.Slot.{Slot}
use Rattle.resolved_tree.specs.declared.slot.Slot.TheVariants as slot
use Rattle.resolved_tree.specs.declared.tree.Argument.{Argument}
use Rattle.resolved_tree.specs.declared.tree.Procedure.{Procedure}
use Rattle.resolved_tree.specs.declared.tree.Resolved.{Resolved}
use Rattle.resolved_tree.specs.declared.tree.Step.{Step, fold-Step}
use Rattle.resolved_tree.specs.declared.tree.Step.TheOpen.{Step-F, Assign, Print, Read, If, For, While, Call, Skip}
use Rattle.resolved_tree.specs.declared.tree.Target.{Target}
use Rattle.resolved_tree.specs.declared.tree.Target.TheVariants as target
use Rattle.resolved_tree.specs.declared.tree.Test.{Test}
use Rattle.resolved_tree.specs.declared.tree.Value.{Value, fold-Value}
use Rattle.resolved_tree.specs.declared.tree.Value.TheOpen as value

-- a run that no source makes whose intervals lie in the range of a set
abbrev pub elsewhere : {A : Type 0} → Run A
elsewhere = traps kind.Stack 0

-- ---- expressions
abbrev pub kept : ℤ → State → Run ℤ
kept x state = if is_word x then returns x state else elsewhere

abbrev pub Evaluation : Type 0
Evaluation = State → Run ℤ

abbrev pub value_of_node : value.Value-F Evaluation → Evaluation
value_of_node (value.Number n) state = happens visit (kept n state)
value_of_node (value.Integer s) state = happens visit (kept (integer_of (declared_of s) state) state)
value_of_node (value.Element s index line) state =
    happens visit (and_then (index state) (λ i after. and_then (element_or_trap (declared_of s) i line after) kept))
value_of_node (value.Neg operand) state = happens visit (and_then (operand state) (λ x. kept (neg_ℤ x)))
value_of_node (value.Binary left operator right line) state =
    happens visit (and_then (left state) (λ x after. and_then (right after) (λ y later.
    and_then (operator_result operator x y line later) kept)))

abbrev pub value_of : Value → Evaluation
value_of v = fold-Value Evaluation value_of_node v

-- a condition, and whether it holds
abbrev pub tested : Test → State → Run Bool
tested test state =
    happens visit (and_then (value_of test.left state) (λ x after. and_then (value_of test.right after) (λ y.
    returns (holds test.comparison x y))))

-- ---- statements, where so many names are declared, with the calls of the procedures
abbrev pub Doing : Type 0
Doing = Calls → State → Run ⊤

module _ (size : ℕ) where
  -- an integer at a number
  abbrev pub put_at : ℕ → ℤ → State → Run ⊤
  put_at k x state = if nat_lt k size then nothing_done (with_integer k x state) else elsewhere

  -- integers at the numbers from k on
  abbrev pub put_from : ℕ → List ℤ → State → Run ⊤
  put_from k [] state = nothing_done state
  put_from k (x ∷ xs) state = and_then (put_at k x state) (λ u. put_from (k + 1) xs)

  -- an integer that is in range, into a slot
  abbrev pub put_in_slot : Slot → ℤ → State → Run ⊤
  put_in_slot (slot.Variable k range) x state = put_at k x state
  put_in_slot (slot.Array k len range) x state = nothing_done state
  put_in_slot slot.Nothing x state = nothing_done state

  -- the same into element i of a slot
  abbrev pub put_in_element : Slot → ℤ → ℤ → State → Run ⊤
  put_in_element (slot.Array k len range) i x state =
      if nat_lt k size then nothing_done (with_element_of (declared_of (slot.Array k len range)) i x state) else elsewhere
  put_in_element (slot.Variable k range) i x state = nothing_done state
  put_in_element slot.Nothing i x state = nothing_done state

  -- A value into a place: the range comes first, with a trap of a kind and a line; then an element's number, with a trap at
  -- a line of its own.
  abbrev pub put_into : Target → ℤ → Kind → ℕ → ℕ → State → Run ⊤
  put_into (target.Integer s) x trap line index_line state =
      if is_within x (range_of (declared_of s)) then put_in_slot s x state else traps trap line
  put_into (target.Element s index name_line) x trap line index_line state =
      if is_within x (range_of (declared_of s))
      then and_then (value_of index state) (λ i after.
      if has_element (declared_of s) i then put_in_element s i x after else traps kind.Index index_line)
      else traps trap line

  abbrev pub line_of : Target → ℕ → ℕ
  line_of (target.Integer s) line = line
  line_of (target.Element s index name_line) line = name_line

  -- the next number of the input into a place
  abbrev pub read_into : Target → ℕ → List ℤ → State → Run ⊤
  read_into place line [] state = traps kind.InputEnd line
  read_into place line (number ∷ rest) state =
      put_into place number kind.InputRange line (line_of place line) (record state { input = rest })

  -- statements, one after another
  abbrev pub in_order : List Doing → Doing
  in_order [] calls state = nothing_done state
  in_order (first ∷ more) calls state = and_then (first calls state) (λ u. in_order more calls)

  -- the turns that are left of a `for`, with the integer of the next
  abbrev pub for_turns : ℕ → ℤ → Slot → ℕ → Doing → Doing
  for_turns zero next s line body calls state = nothing_done state
  for_turns (suc turns) next s line body calls state =
      happens visit (
      if is_within next (range_of (declared_of s))
      then and_then (put_in_slot s next state) (λ u after. and_then (body calls after) (λ v.
      for_turns turns (next +ℤ pos 1) s line body calls))
      else traps kind.Range line)

  -- a `while` of which so many turns are left
  abbrev pub while_turns : ℕ → (State → Run Bool) → ℕ → Doing → Doing
  while_turns zero test line body calls state =
      and_then (test state) (λ again after. if again then traps kind.Turns line else nothing_done after)
  while_turns (suc turns) test line body calls state =
      and_then (test state) (λ again after.
      if again
      then happens visit (and_then (body calls after) (λ u. while_turns turns test line body calls))
      else nothing_done after)

  -- The values of arguments, each tested by the range of its parameter as soon as it is there, and held until all are
  -- there; k is the number of the first parameter.
  abbrev pub argument_values : ℕ → List Argument → ℕ → State → Run (List ℤ)
  argument_values k [] line state = returns [] state
  argument_values k (argument ∷ arguments) line state =
      and_then (value_of argument.value state) (λ x after.
      if is_within x argument.range
      then if nat_lt k size
      then and_then (argument_values (k + 1) arguments line after) (λ xs. returns (x ∷ xs))
      else elsewhere
      else traps kind.Range line)

  abbrev pub step_of_node : Step-F Doing → Doing
  step_of_node (Assign place v line) calls state =
      happens visit (and_then (value_of v state) (λ x. put_into place x kind.Range line line))
  step_of_node (Print v) calls state =
      happens visit (and_then (value_of v state) (λ x after. happens (print x) (nothing_done after)))
  step_of_node (Read place line) calls state = happens visit (read_into place line state.input state)
  step_of_node (If test first second) calls state =
      happens visit (and_then (tested test state) (λ chosen after.
      if chosen then in_order first calls after else in_order second calls after))
  step_of_node (For s first last body line) calls state =
      happens visit (and_then (value_of first state) (λ a after. and_then (value_of last after) (λ b.
      for_turns (turns_of a b) a s line (in_order body) calls)))
  step_of_node (While test limit body line) calls state =
      happens visit (while_turns (unsigned_abs limit) (tested test) line (in_order body) calls state)
  step_of_node (Call k arguments line) calls state =
      happens visit (and_then (argument_values (k + 1) arguments line state) (calls k))
  step_of_node Skip calls state = happens visit (nothing_done state)

  abbrev pub step_of : Step → Doing
  step_of s = fold-Step Doing step_of_node s

  abbrev pub steps_of : List Step → Doing
  steps_of steps = in_order (map step_of steps)

  -- ---- procedures
  -- the locals from number k on, each set to its start by a visit
  abbrev pub locals_set : ℕ → List ℤ → State → Run ⊤
  locals_set k [] state = nothing_done state
  locals_set k (start ∷ starts) state = happens visit (and_then (put_at k start state) (λ u. locals_set (k + 1) starts))

  -- a call: the parameters hold the arguments, each local is set to its start, and then the body runs
  abbrev pub call_of : Procedure → Calls → List ℤ → State → Run ⊤
  call_of p calls arguments state =
      and_then (put_from (p.number + 1) arguments state) (λ u after.
      and_then (locals_set (p.number + 1 + p.params) p.locals after) (λ v. steps_of p.body calls))

  -- A procedure calls those before it.
  abbrev pub with_procedures : List Procedure → Calls → Calls
  with_procedures [] calls = calls
  with_procedures (p ∷ procedures) calls = with_procedures procedures (with_at calls p.number (call_of p calls))

  abbrev pub calls_of : List Procedure → Calls
  calls_of procedures = with_procedures procedures no_calls

-- ---- the whole
-- each slot at its start
abbrev pub state_at_start : List Slot → List ℤ → State
state_at_start slots input = record {
  integers = λ k. start_integer (slice_index_or slots k slot.Nothing);
  arrays = λ k. start_elements (slice_index_or slots k slot.Nothing);
  input = input;
}

abbrev pub meaning_of : Resolved → List ℤ → Run ⊤
meaning_of resolved input =
    steps_of (length resolved.slots) resolved.steps (calls_of (length resolved.slots) resolved.procedures)
    (state_at_start resolved.slots input)
