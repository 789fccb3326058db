-- What a source means: the run of its statements, in the scope of its declarations.
use Rattle.std.specs.Prelude.{ℕ, ◌+◌, ℤ, pos, List, [], ◌∷◌, map, length, replicate, if◌then◌else◌, int_lt, unsigned_abs, ⊤}
use Rattle.source_tree.specs.State.{with_at, State, with_integer, with_array, with_integers}
use Rattle.source_tree.specs.Run.{Run, visit, happens, and_then}
use Rattle.source_tree.specs.Scope.{Scope, inside, with_declared, names_in, with_all_declared}
use Rattle.source_tree.specs.Expression.{Calls, Evaluation, evaluation}
use Rattle.source_tree.specs.Statement.{Execution, nothing_done, in_order, execution_by}
use Rattle.source_tree.specs.declared.name.Range.{Range}
use Rattle.source_tree.specs.declared.expression.Expr.{Expr}
use Rattle.source_tree.specs.declared.declaration.Param.{Param}
use Rattle.source_tree.specs.declared.declaration.Local.{Local}
use Rattle.source_tree.specs.declared.declaration.Declaration.{Declaration}
use Rattle.source_tree.specs.declared.declaration.Declaration.TheVariants.{Var, Array, Proc}
use Rattle.source_tree.specs.declared.declaration.Program.{Program}

-- ---- starts
-- the integer of a range that is nearest to 0
abbrev pub start_of : Range → ℤ
start_of range = if int_lt (pos 0) range.low then range.low else if int_lt range.high (pos 0) then range.high else pos 0

-- every variable, parameter, local and element starts at the integer of its range that is nearest to 0
abbrev pub with_start : ℕ → Declaration → State → State
with_start k (Var name range line) state = with_integer k (start_of range) state
with_start k (Array name len range line) state = with_array k (replicate (unsigned_abs len) (start_of range)) state
with_start k (Proc name params locals body line) state =
    with_integers (k + 1 + length params) (map (λ l. start_of l.range) locals)
    (with_integers (k + 1) (map (λ p. start_of p.range) params) state)

abbrev pub with_all_started : ℕ → List Declaration → State → State
with_all_started k [] state = state
with_all_started k (d ∷ declarations) state = with_all_started (k + names_in d) declarations (with_start k d state)

abbrev pub at_start : List Declaration → List ℤ → State
at_start declarations input = with_all_started 0 declarations (record { integers = λ k. pos 0; arrays = λ k. []; input = input })

-- ---- procedures
-- the locals from number k on, each set to its start by a visit
abbrev pub locals_set : ℕ → List Local → State → Run ⊤
locals_set k [] state = nothing_done state
locals_set k (l ∷ locals) state = happens visit (locals_set (k + 1) locals (with_integer k (start_of l.range) state))

-- a call of procedure k: its parameters hold the arguments, each local is set to its start, and then the body runs
abbrev pub call_of : ℕ → List Param → List Local → Execution → Scope → Calls → List ℤ → State → Run ⊤
call_of k params locals body scope calls arguments state =
    and_then (locals_set (k + 1 + length params) locals (with_integers (k + 1) arguments state)) (λ u after.
    body (inside k params locals scope) calls after)

abbrev pub no_calls : Calls
no_calls k arguments state = nothing_done state

-- ---- the meaning, by what expressions mean
module _ (meant : Expr → Evaluation) where
  -- A procedure calls those that were declared before it.
  abbrev pub with_call : ℕ → Declaration → Scope → Calls → Calls
  with_call k (Var name range line) scope calls = calls
  with_call k (Array name len range line) scope calls = calls
  with_call k (Proc name params locals body line) scope calls =
      with_at calls k (call_of k params locals (in_order (map (execution_by meant) body)) scope calls)

  abbrev pub with_all_calls : ℕ → List Declaration → Scope → Calls → Calls
  with_all_calls k [] scope calls = calls
  with_all_calls k (d ∷ declarations) scope calls =
      with_all_calls (k + names_in d) declarations (with_declared k d scope) (with_call k d scope calls)

  abbrev pub meaning_by : Program → List ℤ → Run ⊤
  meaning_by program input =
      in_order (map (execution_by meant) program.statements) (with_all_declared 0 program.declarations [])
      (with_all_calls 0 program.declarations [] no_calls) (at_start program.declarations input)

-- what the source means on an input
abbrev pub meaning : Program → List ℤ → Run ⊤
meaning program input = meaning_by evaluation program input
