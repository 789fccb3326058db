-- Expressions and statements keep what fits.
use Rattle.std.proofs.Common.{◌≡◌, ℕ, zero, suc, ℤ, pos, ◌+ℤ◌, List, [], ◌∷◌, map, Bool, true, Option, Some, None}
use Rattle.std.specs.Prelude.{⊤, unsigned_abs}
use Rattle.std.specs.Ordering.{int_eq}
use Rattle.plain_text.specs.Lookup.{lookup}
use Rattle.moduli_sets.specs.declared.kind.Kind.{Kind}
use Rattle.moduli_sets.specs.declared.kind.Kind.TheVariants as kind
use Rattle.number_theory.specs.Division.{floor_div, floor_mod}
use Rattle.source_tree.specs.State.{State}
use Rattle.source_tree.specs.Run.{returns, traps, Leads}
use Rattle.source_tree.specs.Scope.{Declared, variable, array, procedure, Scope, is_within, range_of, range_at, with_integer_at, has_element, element_of, with_element_of}
use Rattle.source_tree.specs.Expression.{Calls, Evaluation, evaluation, operator_result, quotient_or_trap}
use Rattle.source_tree.specs.Statement.{Execution, Test, nothing_done, in_order, test_of, put_into_name, put_into_element, put_into, read_into, line_of, for_turns, turns_of, while_turns, argument_values, procedure_call, execution_by}
use Rattle.source_tree.specs.Fits.{Fits, IsAmong, IsScopeOf, Suit, KeepFits}
use Rattle.source_tree.specs.declared.name.Range.{Range}
use Rattle.source_tree.specs.declared.expression.Operator.{Operator}
use Rattle.source_tree.specs.declared.expression.Operator.TheVariants.{Add, Sub, Mul, Div, Mod}
use Rattle.source_tree.specs.declared.expression.Condition.{Condition}
use Rattle.source_tree.specs.declared.expression.Expr.{Expr}
use Rattle.source_tree.specs.declared.statement.Place.{Place}
use Rattle.source_tree.specs.declared.statement.Place.TheVariants.{Name, Element}
use Rattle.source_tree.specs.declared.statement.Statement.{Statement}
use Rattle.source_tree.proofs.RunLaws.{leads_and_then, leads_if}
use Rattle.source_tree.proofs.Inductions.{EachOf, each_evaluation, each_execution}
use Rattle.source_tree.proofs.FitsLemmas.{with_integer_of_fits, with_element_of_fits}

module _ (declared : List Declared) where
  abbrev pub Kept : (A : Type 0) → A → State → Type 0
  Kept A x after = Fits declared after

  -- ---- expressions
  abbrev pub KeepsValue : Evaluation → Type 0
  KeepsValue v =
      (scope : Scope) (calls : Calls) (state : State)
      → IsScopeOf declared scope → KeepFits declared calls → Fits declared state → Leads (v scope calls state) (Kept ℤ)

  quotient_keeps : (f : ℤ → ℤ → ℤ) (x y : ℤ) (line : ℕ) (state : State)
      → Fits declared state → Leads (quotient_or_trap f x y line state) (Kept ℤ)
  quotient_keeps f x y line state fits =
      leads_if (int_eq y (pos 0)) (traps kind.Zero line) (returns (f x y) state) (Kept ℤ) (λ h. tt) (λ h. fits)

  operator_keeps : (o : Operator) (x y : ℤ) (line : ℕ) (state : State)
      → Fits declared state → Leads (operator_result o x y line state) (Kept ℤ)
  operator_keeps Add x y line state fits = fits
  operator_keeps Sub x y line state fits = fits
  operator_keeps Mul x y line state fits = fits
  operator_keeps Div x y line state fits = quotient_keeps floor_div x y line state fits
  operator_keeps Mod x y line state fits = quotient_keeps floor_mod x y line state fits

  pub evaluation_keeps : (e : Expr) → KeepsValue (evaluation e)
  evaluation_keeps =
      each_evaluation KeepsValue
      (λ value line scope calls state s c fits. fits)
      (λ x scope calls state s c fits. fits)
      (λ x index keeps scope calls state s c fits.
      leads_and_then (index scope calls state) _ (Kept ℤ) (Kept ℤ) (keeps scope calls state s c fits)
      (λ i after f.
      leads_if (has_element (lookup x.bytes scope) i) (returns (element_of (lookup x.bytes scope) i after) after)
      (traps kind.Index x.line) (Kept ℤ) (λ h. f) (λ h. tt)))
      (λ operand line keeps scope calls state s c fits.
      leads_and_then (operand scope calls state) _ (Kept ℤ) (Kept ℤ) (keeps scope calls state s c fits) (λ x after f. f))
      (λ left o right line keeps_left keeps_right scope calls state s c fits.
      leads_and_then (left scope calls state) _ (Kept ℤ) (Kept ℤ) (keeps_left scope calls state s c fits)
      (λ x after f. leads_and_then (right scope calls after) _ (Kept ℤ) (Kept ℤ) (keeps_right scope calls after s c f)
      (λ y later g. operator_keeps o x y line later g)))

  -- ---- statements, by what expressions mean
  abbrev pub Keeps : Execution → Type 0
  Keeps ex =
      (scope : Scope) (calls : Calls) (state : State)
      → IsScopeOf declared scope → KeepFits declared calls → Fits declared state → Leads (ex scope calls state) (Kept ⊤)

  pub in_order_keeps : (l : List Execution) → EachOf Keeps l → Keeps (in_order l)
  in_order_keeps [] h scope calls state s c fits = fits
  in_order_keeps (first ∷ more) h scope calls state s c fits =
      leads_and_then (first scope calls state) _ (Kept ⊤) (Kept ⊤) (h.0 scope calls state s c fits)
      (λ u after f. in_order_keeps more h.1 scope calls after s c f)

  put_into_name_keeps : (x : List ℕ) (v : ℤ) (trap : Kind) (line : ℕ) (scope : Scope) (state : State)
      → IsScopeOf declared scope → Fits declared state → Leads (put_into_name x v trap line scope state) (Kept ⊤)
  put_into_name_keeps x v trap line scope state s fits =
      leads_if (is_within v (range_at scope x)) (nothing_done (with_integer_at scope x v state)) (traps trap line) (Kept ⊤)
      (λ h. with_integer_of_fits declared (lookup x scope) v state (s x) h fits) (λ h. tt)

  put_into_element_keeps : (a : Option Declared) (v : ℤ) (line : ℕ) (i : ℤ) (state : State)
      → IsAmong declared a → is_within v (range_of a) ≡ true → Fits declared state
      → Leads (put_into_element a v line i state) (Kept ⊤)
  put_into_element_keeps a v line i state s within fits =
      leads_if (has_element a i) (nothing_done (with_element_of a i v state)) (traps kind.Index line) (Kept ⊤)
      (λ h. with_element_of_fits declared a i v state s within fits) (λ h. tt)

  for_keeps : (turns : ℕ) (next : ℤ) (x : List ℕ) (line : ℕ) (body : Execution)
      → Keeps body → Keeps (for_turns turns next x line body)
  for_keeps zero next x line body keeps scope calls state s c fits = fits
  for_keeps (suc turns) next x line body keeps scope calls state s c fits =
      leads_if (is_within next (range_at scope x)) _ (traps kind.Range line) (Kept ⊤)
      (λ h. leads_and_then (body scope calls (with_integer_at scope x next state)) _ (Kept ⊤) (Kept ⊤)
      (keeps scope calls (with_integer_at scope x next state) s c (with_integer_of_fits declared (lookup x scope) next state (s x) h fits))
      (λ u after f. for_keeps turns (next +ℤ pos 1) x line body keeps scope calls after s c f))
      (λ h. tt)

  abbrev KeepsTest : Test → Type 0
  KeepsTest test =
      (scope : Scope) (calls : Calls) (state : State)
      → IsScopeOf declared scope → KeepFits declared calls → Fits declared state → Leads (test scope calls state) (Kept Bool)

  while_keeps : (turns : ℕ) (test : Test) (line : ℕ) (body : Execution)
      → KeepsTest test → Keeps body → Keeps (while_turns turns test line body)
  while_keeps zero test line body keeps_test keeps scope calls state s c fits =
      leads_and_then (test scope calls state) _ (Kept Bool) (Kept ⊤) (keeps_test scope calls state s c fits)
      (λ again after f. leads_if again (traps kind.Turns line) (nothing_done after) (Kept ⊤) (λ h. tt) (λ h. f))
  while_keeps (suc turns) test line body keeps_test keeps scope calls state s c fits =
      leads_and_then (test scope calls state) _ (Kept Bool) (Kept ⊤) (keeps_test scope calls state s c fits)
      (λ again after f. leads_if again _ (nothing_done after) (Kept ⊤)
      (λ h. leads_and_then (body scope calls after) _ (Kept ⊤) (Kept ⊤) (keeps scope calls after s c f)
      (λ u later g. while_keeps turns test line body keeps_test keeps scope calls later s c g))
      (λ h. f))

  module _ (meant : Expr → Evaluation) (keeps : (e : Expr) → KeepsValue (meant e)) where
    test_keeps : (condition : Condition) → KeepsTest (test_of meant condition)
    test_keeps condition scope calls state s c fits =
        leads_and_then (meant condition.left scope calls state) _ (Kept ℤ) (Kept Bool) (keeps condition.left scope calls state s c fits)
        (λ x after f. leads_and_then (meant condition.right scope calls after) _ (Kept ℤ) (Kept Bool)
        (keeps condition.right scope calls after s c f) (λ y later g. g))

    put_into_keeps : (place : Place) (v : ℤ) (trap : Kind) (line index_line : ℕ) → Keeps (put_into meant place v trap line index_line)
    put_into_keeps (Name name) v trap line index_line scope calls state s c fits =
        put_into_name_keeps name.bytes v trap line scope state s fits
    put_into_keeps (Element name index) v trap line index_line scope calls state s c fits =
        leads_if (is_within v (range_at scope name.bytes)) _ (traps trap line) (Kept ⊤)
        (λ h. leads_and_then (meant index scope calls state) _ (Kept ℤ) (Kept ⊤) (keeps index scope calls state s c fits)
        (λ i after f. put_into_element_keeps (lookup name.bytes scope) v index_line i after (s name.bytes) h f))
        (λ h. tt)

    read_into_keeps : (place : Place) (line : ℕ) (input : List ℤ) → Keeps (read_into meant place line input)
    read_into_keeps place line [] scope calls state s c fits = tt
    read_into_keeps place line (number ∷ rest) scope calls state s c fits =
        put_into_keeps place number kind.InputRange line (line_of place) scope calls (record state { input = rest }) s c fits

    abbrev Suited : List Range → List ℤ → State → Type 0
    Suited params xs after = Suit xs params × Fits declared after

    arguments_keep : (es : List Expr) (params : List Range) (line : ℕ) (scope : Scope) (calls : Calls) (state : State)
        → IsScopeOf declared scope → KeepFits declared calls → Fits declared state
        → Leads (argument_values (map meant es) params line scope calls state) (Suited params)
    arguments_keep [] params line scope calls state s c fits = (tt, fits)
    arguments_keep (e ∷ es) [] line scope calls state s c fits = (tt, fits)
    arguments_keep (e ∷ es) (range ∷ params) line scope calls state s c fits =
        leads_and_then (meant e scope calls state) _ (Kept ℤ) (Suited (range ∷ params)) (keeps e scope calls state s c fits)
        (λ x after f. leads_if (is_within x range) _ (traps kind.Range line) (Suited (range ∷ params))
        (λ h. leads_and_then (argument_values (map meant es) params line scope calls after) _ (Suited params) (Suited (range ∷ params))
        (arguments_keep es params line scope calls after s c f) (λ xs later g. ((h, g.0), g.1)))
        (λ h. tt))

    call_keeps : (o : Option Declared) (es : List Expr) (line : ℕ) (scope : Scope) (calls : Calls) (state : State)
        → IsAmong declared o → IsScopeOf declared scope → KeepFits declared calls → Fits declared state
        → Leads (procedure_call o (map meant es) line scope calls state) (Kept ⊤)
    call_keeps (Some (procedure k params)) es line scope calls state t s c fits =
        leads_and_then (argument_values (map meant es) params line scope calls state) _ (Suited params) (Kept ⊤)
        (arguments_keep es params line scope calls state s c fits) (λ xs after f. c k params xs after t f.0 f.1)
    call_keeps (Some (variable k range)) es line scope calls state t s c fits = fits
    call_keeps (Some (array k len range)) es line scope calls state t s c fits = fits
    call_keeps None es line scope calls state t s c fits = fits

    pub execution_keeps : (l : Statement) → Keeps (execution_by meant l)
    execution_keeps =
        each_execution meant Keeps
        (λ place value line scope calls state s c fits.
        leads_and_then (meant value scope calls state) _ (Kept ℤ) (Kept ⊤) (keeps value scope calls state s c fits)
        (λ x after f. put_into_keeps place x kind.Range line line scope calls after s c f))
        (λ value line scope calls state s c fits.
        leads_and_then (meant value scope calls state) _ (Kept ℤ) (Kept ⊤) (keeps value scope calls state s c fits)
        (λ x after f. f))
        (λ place line scope calls state s c fits. read_into_keeps place line state.input scope calls state s c fits)
        (λ condition first second line keeps_first keeps_second scope calls state s c fits.
        leads_and_then (test_of meant condition scope calls state) _ (Kept Bool) (Kept ⊤) (test_keeps condition scope calls state s c fits)
        (λ chosen after f. leads_if chosen (in_order first scope calls after) (in_order second scope calls after) (Kept ⊤)
        (λ h. in_order_keeps first keeps_first scope calls after s c f) (λ h. in_order_keeps second keeps_second scope calls after s c f)))
        (λ x first last body line keeps_body scope calls state s c fits.
        leads_and_then (meant first scope calls state) _ (Kept ℤ) (Kept ⊤) (keeps first scope calls state s c fits)
        (λ a after f. leads_and_then (meant last scope calls after) _ (Kept ℤ) (Kept ⊤) (keeps last scope calls after s c f)
        (λ b later g. for_keeps (turns_of a b) a x.bytes line (in_order body) (in_order_keeps body keeps_body) scope calls later s c g)))
        (λ condition limit body line keeps_body scope calls state s c fits.
        while_keeps (unsigned_abs limit) (test_of meant condition) line (in_order body) (test_keeps condition)
        (in_order_keeps body keeps_body) scope calls state s c fits)
        (λ x es line scope calls state s c fits. call_keeps (lookup x.bytes scope) es line scope calls state (s x.bytes) s c fits)
