-- A resolved statement does what the statement does, where each name stands for what is declared at its number.
use Rattle.std.proofs.Common.{◌≡◌, ℕ, zero, suc, ◌+◌, ◌≤◌, ℤ, pos, ◌+ℤ◌, List, [], ◌∷◌, length, map, refl, sym, ap, ◌∙◌, arith, Bool, true, false, Option, Some, None}
use Rattle.std.specs.Prelude.{if◌then◌else◌, ⊤, slice_get, unsigned_abs, nat_lt}
use Rattle.std.proofs.lemmas.Bool.Decides.{nat_tests}
use Rattle.plain_text.specs.Lookup.{lookup}
use Rattle.moduli_sets.specs.declared.kind.Kind.{Kind}
use Rattle.moduli_sets.specs.declared.kind.Kind.TheVariants as kind
use Rattle.source_tree.specs.State.{State, with_integer}
use Rattle.source_tree.specs.Run.{Run, visit, print, returns, traps, happens, and_then, Leads}
use Rattle.source_tree.specs.Scope.{Declared, variable, array, procedure, Scope, is_within, with_integer_of, with_element_of}
use Rattle.source_tree.specs.Expression.{Calls}
use Rattle.source_tree.specs.Fits.{IsAmong, IsScopeOf}
use Rattle.source_tree.specs.Statement.{execution_of_node, Execution, nothing_done, test_of, turns_of, execution_by}
use Rattle.source_tree.specs.Statement as source
use Rattle.source_tree.specs.declared.name.Name.{Name as SourceName}
use Rattle.source_tree.specs.declared.name.Range.{Range}
use Rattle.source_tree.specs.declared.expression.Condition.{Condition}
use Rattle.source_tree.specs.declared.expression.Expr.{Expr}
use Rattle.source_tree.specs.declared.statement.Place.{Place}
use Rattle.source_tree.specs.declared.statement.Place.TheVariants as place
use Rattle.source_tree.specs.declared.statement.Statement.{Statement, Assign, Print, Read, If, For, While, Call}
use Rattle.source_tree.proofs.FoldEquations.{fold-Assign, fold-Print, fold-Read, fold-If, fold-For, fold-While, fold-Call}
use Rattle.source_tree.proofs.Inductions.{EachOf, each_of, each_statement}
use Rattle.source_tree.proofs.RunLaws.{and_then_agrees, leads_and_then, leads_always}
use Rattle.resolved_tree.specs.Meaning.{Doing, put_in_slot, put_in_element, put_into, read_into, for_turns, while_turns, argument_values, step_of, steps_of, tested}
use Rattle.resolved_tree.specs.Resolution.{slot_at, resolved_expr, resolved_condition, resolved_place, resolved_arguments, resolved_call, all_resolved, resolved_statement, resolved_statements, resolved_node}
use Rattle.resolved_tree.specs.Slots.{slot_of}
use Rattle.resolved_tree.specs.declared.tree.Step.{Step}
use Rattle.resolved_tree.proofs.Equations.{all_resolved-map, step-Assign, step-Print, step-Read, step-If, step-For, step-While, step-Call, step-Skip}
use Rattle.resolved_tree.proofs.Rooms.{HasRoom, room_at, place_below}
use Rattle.resolved_tree.proofs.SameValues.{watching, range_same, has_same, value_same, test_same}

module _ (declared : List Declared) where
  abbrev pub size : ℕ
  size = length declared

  -- ---- integers and elements into slots
  slot_put_same : (o : Option Declared) (x : ℤ) (state : State) → IsAmong declared o
      → put_in_slot size (slot_of o) x state ≡ nothing_done (with_integer_of o x state)
  slot_put_same (Some (variable k range)) x state among =
      ap (λ b. if b then nothing_done (with_integer k x state) else traps kind.Stack 0) (place_below declared k (variable k range) among)
  slot_put_same (Some (array k len range)) x state among = refl
  slot_put_same (Some (procedure k params)) x state among = refl
  slot_put_same None x state among = refl

  element_put_same : (o : Option Declared) (i x : ℤ) (state : State) → IsAmong declared o
      → put_in_element size (slot_of o) i x state ≡ nothing_done (with_element_of o i x state)
  element_put_same (Some (variable k range)) i x state among = refl
  element_put_same (Some (array k len range)) i x state among =
      ap (λ b. if b then nothing_done (with_element_of (Some (array k len range)) i x state) else traps kind.Stack 0) (place_below declared k (array k len range) among)
  element_put_same (Some (procedure k params)) i x state among = refl
  element_put_same None i x state among = refl

  -- ---- calls
  -- Calls do the same with as many arguments as there are parameters, or fewer.
  abbrev pub Agree : Calls → Calls → Type 0
  Agree calls' calls =
      (k : ℕ) (params : List Range) (arguments : List ℤ) (state : State)
      → slice_get declared k ≡ Some (procedure k params) → length arguments ≤ length params
      → calls' k arguments state ≡ calls k arguments state

  abbrev pub SameStep : Statement → Type 0
  SameStep s =
      (scope : Scope) (calls' calls : Calls) (state : State) → IsScopeOf declared scope → Agree calls' calls
      → step_of size (resolved_statement s scope) calls' state ≡ execution_by watching s scope calls state

  -- ---- statements, one after another
  pub list_same : (l : List Statement) → EachOf SameStep l
      → (scope : Scope) (calls' calls : Calls) (state : State) → IsScopeOf declared scope → Agree calls' calls
      → steps_of size (resolved_statements l scope) calls' state ≡ source.in_order (map (execution_by watching) l) scope calls state
  list_same [] h scope calls' calls state names agree = refl
  list_same (s ∷ l) h scope calls' calls state names agree =
      λ j. and_then (h.0 scope calls' calls state names agree j) (λ u after. list_same l h.1 scope calls' calls after names agree j)

  module _ (scope : Scope) (calls' calls : Calls) (names : IsScopeOf declared scope) (agree : Agree calls' calls) where
    among : (name : SourceName) → IsAmong declared (lookup name.bytes scope)
    among name = names name.bytes

    -- ---- places
    put_same : (to : Place) (x : ℤ) (trap : Kind) (line index_line : ℕ) (state : State)
        → put_into size (resolved_place to scope) x trap line index_line state ≡ source.put_into watching to x trap line index_line scope calls state
    put_same (place.Name name) x trap line index_line state =
        let o = lookup name.bytes scope in
        λ j. if is_within x (range_same o j) then slot_put_same o x state (among name) j else traps trap line
    put_same (place.Element name index) x trap line index_line state =
        let o = lookup name.bytes scope in
        λ j. if is_within x (range_same o j)
        then and_then (value_same index scope calls state j) (λ i after.
        if has_same o i j then element_put_same o i x after (among name) j else traps kind.Index index_line)
        else traps trap line

    read_same : (to : Place) (line : ℕ) (input : List ℤ) (state : State)
        → read_into size (resolved_place to scope) line input state ≡ source.read_into watching to line input scope calls state
    read_same (place.Name name) line [] state = refl
    read_same (place.Name name) line (number ∷ rest) state =
        put_same (place.Name name) number kind.InputRange line line (record state { input = rest })
    read_same (place.Element name index) line [] state = refl
    read_same (place.Element name index) line (number ∷ rest) state =
        put_same (place.Element name index) number kind.InputRange line name.line (record state { input = rest })

    -- ---- loops
    module _ (body' : Doing) (body : Execution) (same : (state : State) → body' calls' state ≡ body scope calls state) where
      for_same : (turns : ℕ) (next : ℤ) (name : SourceName) (line : ℕ) (state : State)
          → for_turns size turns next (slot_at name scope) line body' calls' state ≡ source.for_turns turns next name.bytes line body scope calls state
      for_same zero next name line state = refl
      for_same (suc turns) next name line state =
          let o = lookup name.bytes scope in
          λ j. happens visit (
          if is_within next (range_same o j)
          then and_then (slot_put_same o next state (among name) j) (λ u after. and_then (same after j) (λ v later.
          for_same turns (next +ℤ pos 1) name line later j))
          else traps kind.Range line)

      while_same : (turns : ℕ) (condition : Condition) (line : ℕ) (state : State)
          → while_turns size turns (tested (resolved_condition condition scope)) line body' calls' state
          ≡ source.while_turns turns (test_of watching condition) line body scope calls state
      while_same zero condition line state =
          λ j. and_then (test_same condition scope calls state j) (λ again after. if again then traps kind.Turns line else nothing_done after)
      while_same (suc turns) condition line state =
          λ j. and_then (test_same condition scope calls state j) (λ again after.
          if again
          then happens visit (and_then (same after j) (λ u later. while_same turns condition line later j))
          else nothing_done after)

    -- ---- arguments
    arguments_same : (k : ℕ) (es : List Expr) (params : List Range) (line : ℕ) (state : State) → k + length params ≤ size
        → argument_values size k (resolved_arguments es params scope) line state
        ≡ source.argument_values (map watching es) params line scope calls state
    arguments_same k [] params line state room = refl
    arguments_same k (e ∷ es) [] line state room = refl
    arguments_same k (e ∷ es) (range ∷ params) line state room =
        let below : nat_lt k size ≡ true = grind (arith, nat_tests) in
        let more : k + 1 + length params ≤ size = omega arith in
        λ j. and_then (value_same e scope calls state j) (λ x after.
        if is_within x range
        then (if below j
        then and_then (arguments_same (k + 1) es params line after more j) (λ xs. returns (x ∷ xs))
        else traps kind.Stack 0)
        else traps kind.Range line)

    abbrev Few : List Range → List ℤ → State → Type 0
    Few params xs after = length xs ≤ length params

    abbrev Any : ℤ → State → Type 0
    Any x after = ⊤

    arguments_few : (es : List Expr) (params : List Range) (line : ℕ) (state : State)
        → Leads (source.argument_values (map watching es) params line scope calls state) (Few params)
    arguments_few [] params line state = omega arith
    arguments_few (e ∷ es) [] line state = omega arith
    arguments_few (e ∷ es) (range ∷ params) line state =
        leads_and_then (watching e scope calls state) _ Any (Few (range ∷ params)) (leads_always (watching e scope calls state) Any (λ x after. tt))
        (λ x after t. of (λ later. arguments_few es params line later) x after (is_within x range))
      where
        of : ((later : State) → Leads (source.argument_values (map watching es) params line scope calls later) (Few params))
            → (x : ℤ) (after : State) (b : Bool)
            → Leads (if b then and_then (source.argument_values (map watching es) params line scope calls after) (λ xs. returns (x ∷ xs)) else traps kind.Range line) (Few (range ∷ params))
        of rest x after true =
            leads_and_then (source.argument_values (map watching es) params line scope calls after) _ (Few params) (Few (range ∷ params))
            (rest after) (λ xs later few. omega arith)
        of rest x after false = tt

    module _ (room : HasRoom declared) where
      call_same : (o : Option Declared) (es : List Expr) (line : ℕ) (state : State) → IsAmong declared o
          → step_of size (resolved_call o es line scope) calls' state
          ≡ happens visit (source.procedure_call o (map watching es) line scope calls state)
      call_same (Some (procedure k params)) es line state t =
          let enough : k + 1 + length params ≤ size = room_at declared k k params room t in
          ap (λ d. d calls' state) (step-Call size k (resolved_arguments es params scope) line)
          ∙ ap (λ (r : Run (List ℤ)). happens visit (and_then r (calls' k))) (arguments_same (k + 1) es params line state enough)
          ∙ ap (λ (r : Run ⊤). happens visit r)
          (and_then_agrees (source.argument_values (map watching es) params line scope calls state) (calls' k) (calls k) (Few params)
          (arguments_few es params line state) (λ xs after few. agree k params xs after t few))
      call_same (Some (variable k range)) es line state t = ap (λ d. d calls' state) (step-Skip size)
      call_same (Some (array k len range)) es line state t = ap (λ d. d calls' state) (step-Skip size)
      call_same None es line state t = ap (λ d. d calls' state) (step-Skip size)

  -- ---- statements
  module _ (room : HasRoom declared) where
    join : (s : Statement) (resolved : Scope → Step) (ex : Execution) → resolved_statement s ≡ resolved → execution_by watching s ≡ ex
        → ((scope : Scope) (calls' calls : Calls) (state : State) → IsScopeOf declared scope → Agree calls' calls
        → step_of size (resolved scope) calls' state ≡ ex scope calls state)
        → SameStep s
    join s resolved ex is is_ex same scope calls' calls state names agree =
        ap (λ r. step_of size (r scope) calls' state) is ∙ same scope calls' calls state names agree
        ∙ sym (ap (λ (x : Execution). x scope calls state) is_ex)

    -- statements within another
    inner_same : (l : List Statement) → EachOf SameStep l
        → (scope : Scope) (calls' calls : Calls) (state : State) → IsScopeOf declared scope → Agree calls' calls
        → steps_of size (all_resolved (map resolved_statement l) scope) calls' state ≡ source.in_order (map (execution_by watching) l) scope calls state
    inner_same l h scope calls' calls state names agree =
        ap (λ steps. steps_of size steps calls' state) (all_resolved-map l scope) ∙ list_same l h scope calls' calls state names agree

    pub step_same : (s : Statement) → SameStep s
    step_same =
        each_statement SameStep
        (λ to e line. join (Assign to e line) _ _ (fold-Assign resolved_node to e line) (fold-Assign (execution_of_node watching) to e line)
        (λ scope calls' calls state names agree.
        ap (λ d. d calls' state) (step-Assign size (resolved_place to scope) (resolved_expr e scope) line)
        ∙ (λ j. happens visit (and_then (value_same e scope calls state j) (λ x after. put_same scope calls' calls names agree to x kind.Range line line after j)))))
        (λ e line. join (Print e line) _ _ (fold-Print resolved_node e line) (fold-Print (execution_of_node watching) e line)
        (λ scope calls' calls state names agree.
        ap (λ d. d calls' state) (step-Print size (resolved_expr e scope))
        ∙ (λ j. happens visit (and_then (value_same e scope calls state j) (λ x after. happens (print x) (nothing_done after))))))
        (λ to line. join (Read to line) _ _ (fold-Read resolved_node to line) (fold-Read (execution_of_node watching) to line)
        (λ scope calls' calls state names agree.
        ap (λ d. d calls' state) (step-Read size (resolved_place to scope) line)
        ∙ (λ j. happens visit (read_same scope calls' calls names agree to line state.input state j))))
        (λ condition first second line h k. join (If condition first second line) _ _ (fold-If resolved_node condition first second line) (fold-If (execution_of_node watching) condition first second line)
        (λ scope calls' calls state names agree.
        ap (λ d. d calls' state) (step-If size (resolved_condition condition scope) (all_resolved (map resolved_statement first) scope) (all_resolved (map resolved_statement second) scope))
        ∙ (λ j. happens visit (and_then (test_same condition scope calls state j) (λ chosen after.
        if chosen then inner_same first h scope calls' calls after names agree j else inner_same second k scope calls' calls after names agree j)))))
        (λ name first last body line h. join (For name first last body line) _ _ (fold-For resolved_node name first last body line) (fold-For (execution_of_node watching) name first last body line)
        (λ scope calls' calls state names agree.
        ap (λ d. d calls' state) (step-For size (slot_at name scope) (resolved_expr first scope) (resolved_expr last scope) (all_resolved (map resolved_statement body) scope) line)
        ∙ (λ j. happens visit (and_then (value_same first scope calls state j) (λ a after. and_then (value_same last scope calls after j) (λ b later.
        for_same scope calls' calls names agree (steps_of size (all_resolved (map resolved_statement body) scope)) (source.in_order (map (execution_by watching) body))
        (λ s. inner_same body h scope calls' calls s names agree) (turns_of a b) a name line later j))))))
        (λ condition limit body line h. join (While condition limit body line) _ _ (fold-While resolved_node condition limit body line) (fold-While (execution_of_node watching) condition limit body line)
        (λ scope calls' calls state names agree.
        ap (λ d. d calls' state) (step-While size (resolved_condition condition scope) limit (all_resolved (map resolved_statement body) scope) line)
        ∙ (λ j. happens visit (
        while_same scope calls' calls names agree (steps_of size (all_resolved (map resolved_statement body) scope)) (source.in_order (map (execution_by watching) body))
        (λ s. inner_same body h scope calls' calls s names agree) (unsigned_abs limit) condition line state j))))
        (λ name es line. join (Call name es line) _ _ (fold-Call resolved_node name es line) (fold-Call (execution_of_node watching) name es line)
        (λ scope calls' calls state names agree.
        call_same scope calls' calls names agree room (lookup name.bytes scope) es line state (names name.bytes)))

    pub all_same : (l : List Statement) (scope : Scope) (calls' calls : Calls) (state : State) → IsScopeOf declared scope → Agree calls' calls
        → steps_of size (resolved_statements l scope) calls' state ≡ source.in_order (map (execution_by watching) l) scope calls state
    all_same l = list_same l (each_of SameStep step_same l)
