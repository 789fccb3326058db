-- To watch the values of expressions changes nothing in what statements do, and they keep what fits.
use Rattle.std.proofs.Common.{◌≡◌, ℕ, zero, suc, ℤ, pos, ◌+ℤ◌, List, [], ◌∷◌, length, refl, sym, subst, Bool, Option, Some, None, map}
use Rattle.std.specs.Prelude.{⊤, unsigned_abs}
use Rattle.plain_text.specs.Lookup.{lookup}
use Rattle.moduli_sets.specs.declared.kind.Kind.{Kind}
use Rattle.moduli_sets.specs.declared.kind.Kind.TheVariants as kind
use Rattle.name_check.specs.Names.{as_array, as_procedure, as_assigned, with_loop, expr_faults, exprs_faults, condition_faults, Loops, place_faults, Faults, all_faults, faults_of_node, statement_faults}
use Rattle.source_tree.specs.State.{State}
use Rattle.source_tree.specs.Run.{Run, visit, traps}
use Rattle.source_tree.specs.Scope.{Declared, variable, array, procedure, Scope, is_within, range_of, range_at, has_element, with_integer_at}
use Rattle.source_tree.specs.Expression.{Calls, Evaluation, evaluation}
use Rattle.source_tree.specs.Statement.{Execution, in_order, test_of, put_into, read_into, line_of, for_turns, turns_of, while_turns, argument_values, procedure_call, execution_of_node, execution_by}
use Rattle.source_tree.specs.Fits.{Fits, IsAmong, Suit}
use Rattle.source_tree.specs.declared.name.Name.{Name as SourceName}
use Rattle.source_tree.specs.declared.name.Range.{Range}
use Rattle.source_tree.specs.declared.expression.Expr.{Expr}
use Rattle.source_tree.specs.declared.expression.Condition.{Condition}
use Rattle.source_tree.specs.declared.statement.Place.{Place}
use Rattle.source_tree.specs.declared.statement.Place.TheVariants as place
use Rattle.source_tree.specs.declared.statement.Statement.{Statement, Assign, Print, Read, If, For, While, Call}
use Rattle.source_tree.specs.declared.statement.Statement.TheOpen as statement
use Rattle.source_tree.proofs.FoldEquations.{fold-Assign, fold-Print, fold-Read, fold-If, fold-For, fold-While, fold-Call}
use Rattle.source_tree.proofs.FitsLemmas.{with_integer_of_fits, with_element_of_fits}
use Rattle.source_tree.proofs.Inductions.{EachOf, each_of, each_statement}
use Rattle.range_inference.specs.Demands.{Demand, expr_demands, exprs_demands, condition_demands, place_demands, all_demands, demands_of_node, statement_demands}
use Rattle.range_inference.specs.Interval.{Ranges, interval_of}
use Rattle.range_inference.specs.Watched.{watched_evaluation}
use Rattle.range_inference.specs.declared.interval.Interval.{Interval}
use Rattle.range_inference.proofs.Passing.{AllPass, pass_first, pass_second}
use Rattle.range_inference.proofs.SameRuns.{Both, both_happens, both_then, both_if, not_empty, first_empty, second_empty}
use Rattle.range_inference.proofs.WatchedExpressions.{Tied, LiesAndFits, value_holds}

module _ (declared : List Declared) (test : Interval → ℤ → Bool) (elsewhere : Run ℤ) where
  abbrev pub watching : Expr → Evaluation
  watching = watched_evaluation test elsewhere

  abbrev pub Stands : ⊤ → State → Type 0
  Stands u after = Fits declared after

  abbrev Told : Bool → State → Type 0
  Told b after = Fits declared after

  abbrev pub Keeps : Execution → Execution → Faults → (Ranges → List Demand) → Type 0
  Keeps ex' ex faults demands =
      (scope : Scope) (calls' calls : Calls) (state : State) (loops : Loops)
      → Tied declared scope calls' calls → faults scope loops ≡ [] → AllPass test (demands (range_at scope)) → Fits declared state
      → Both (ex' scope calls' state) (ex scope calls state) Stands

  abbrev pub KeepsStatement : Statement → Type 0
  KeepsStatement s = Keeps (execution_by watching s) (execution_by evaluation s) (statement_faults s) (statement_demands s)

  -- ---- lists
  pub list_keeps : (l : List Statement) → EachOf KeepsStatement l
      → Keeps (in_order (map (execution_by watching) l)) (in_order (map (execution_by evaluation) l)) (all_faults (map statement_faults l)) (all_demands (map statement_demands l))
  list_keeps [] h scope calls' calls state loops tied none passes fits = (refl, fits)
  list_keeps (s ∷ l) h scope calls' calls state loops tied none passes fits =
      let d = statement_demands s (range_at scope) in
      both_then _ _ _ _ Stands Stands
      (h.0 scope calls' calls state loops tied (first_empty (statement_faults s scope loops) _ none) (pass_first test d _ passes) fits)
      (λ u after f. list_keeps l h.1 scope calls' calls after loops tied (second_empty (statement_faults s scope loops) _ none) (pass_second test d _ passes) f)

  module _ (scope : Scope) (calls' calls : Calls) (tied : Tied declared scope calls' calls) where
    abbrev ranges : Ranges
    ranges = range_at scope

    abbrev Lying : Expr → ℤ → State → Type 0
    Lying e = LiesAndFits declared test elsewhere (interval_of e ranges)

    value : (e : Expr) (state : State) → expr_faults e scope ≡ [] → AllPass test (expr_demands e ranges) → Fits declared state
        → Both (watching e scope calls' state) (evaluation e scope calls state) (Lying e)
    value e state none passes fits = value_holds declared test elsewhere e scope calls' calls state tied none passes fits

    -- ---- conditions
    test_keeps : (condition : Condition) (state : State)
        → condition_faults condition scope ≡ [] → AllPass test (condition_demands condition ranges) → Fits declared state
        → Both (test_of watching condition scope calls' state) (test_of evaluation condition scope calls state) Told
    test_keeps condition state none passes fits =
        let left = condition.left in
        let right = condition.right in
        both_happens visit _ _ Told
        (both_then _ _ _ _ (Lying left) Told
        (value left state (first_empty (expr_faults left scope) _ none) (pass_first test (expr_demands left ranges) _ passes) fits)
        (λ x after p. both_then _ _ _ _ (Lying right) Told
        (value right after (second_empty (expr_faults left scope) _ none) (pass_second test (expr_demands left ranges) _ passes) p.1)
        (λ y later q. (refl, q.1))))

    -- ---- places
    put_keeps : (to : Place) (v : ℤ) (trap : Kind) (line index_line : ℕ) (state : State) (loops : Loops)
        → place_faults to scope loops ≡ [] → AllPass test (place_demands to ranges) → Fits declared state
        → Both (put_into watching to v trap line index_line scope calls' state) (put_into evaluation to v trap line index_line scope calls state) Stands
    put_keeps (place.Name name) v trap line index_line state loops none passes fits =
        both_if (is_within v (ranges name.bytes)) _ _ (traps trap line) (traps trap line) Stands
        (λ h. (refl, with_integer_of_fits declared (lookup name.bytes scope) v state (tied.names name.bytes) h fits))
        (λ h. (refl, tt))
    put_keeps (place.Element name index) v trap line index_line state loops none passes fits =
        let o = lookup name.bytes scope in
        both_if (is_within v (range_of o)) _ _ (traps trap line) (traps trap line) Stands
        (λ h. both_then _ _ _ _ (Lying index) Stands (value index state (second_empty (as_array o name.line) _ none) passes fits)
        (λ i after p. both_if (has_element o i) _ _ (traps kind.Index index_line) (traps kind.Index index_line) Stands
        (λ k. (refl, with_element_of_fits declared o i v after (tied.names name.bytes) h p.1)) (λ k. (refl, tt))))
        (λ h. (refl, tt))

    read_keeps : (to : Place) (line : ℕ) (input : List ℤ) (state : State) (loops : Loops)
        → place_faults to scope loops ≡ [] → AllPass test (place_demands to ranges) → Fits declared state
        → Both (read_into watching to line input scope calls' state) (read_into evaluation to line input scope calls state) Stands
    read_keeps to line [] state loops none passes fits = (refl, tt)
    read_keeps to line (number ∷ rest) state loops none passes fits =
        put_keeps to number kind.InputRange line (line_of to) (record state { input = rest }) loops none passes fits

    -- ---- loops
    for_keeps : (turns : ℕ) (next : ℤ) (x : List ℕ) (line : ℕ) (body' body : Execution) (faults : Faults) (demands : Ranges → List Demand) (loops : Loops) (state : State)
        → Keeps body' body faults demands → faults scope loops ≡ [] → AllPass test (demands ranges) → Fits declared state
        → Both (for_turns turns next x line body' scope calls' state) (for_turns turns next x line body scope calls state) Stands
    for_keeps zero next x line body' body faults demands loops state keeps none passes fits = (refl, fits)
    for_keeps (suc turns) next x line body' body faults demands loops state keeps none passes fits =
        both_happens visit _ _ Stands
        (both_if (is_within next (ranges x)) _ _ (traps kind.Range line) (traps kind.Range line) Stands
        (λ k. both_then _ _ _ _ Stands Stands
        (keeps scope calls' calls (with_integer_at scope x next state) loops tied none passes (with_integer_of_fits declared (lookup x scope) next state (tied.names x) k fits))
        (λ u after f. for_keeps turns (next +ℤ pos 1) x line body' body faults demands loops after keeps none passes f))
        (λ k. (refl, tt)))

    while_keeps : (turns : ℕ) (condition : Condition) (line : ℕ) (body' body : Execution) (faults : Faults) (demands : Ranges → List Demand) (loops : Loops) (state : State)
        → condition_faults condition scope ≡ [] → AllPass test (condition_demands condition ranges)
        → Keeps body' body faults demands → faults scope loops ≡ [] → AllPass test (demands ranges) → Fits declared state
        → Both (while_turns turns (test_of watching condition) line body' scope calls' state) (while_turns turns (test_of evaluation condition) line body scope calls state) Stands
    while_keeps zero condition line body' body faults demands loops state sides side_passes keeps none passes fits =
        both_then _ _ _ _ Told Stands (test_keeps condition state sides side_passes fits)
        (λ b after f. both_if b (traps kind.Turns line) (traps kind.Turns line) _ _ Stands (λ h. (refl, tt)) (λ h. (refl, f)))
    while_keeps (suc turns) condition line body' body faults demands loops state sides side_passes keeps none passes fits =
        both_then _ _ _ _ Told Stands (test_keeps condition state sides side_passes fits)
        (λ b after f. both_if b _ _ _ _ Stands
        (λ h. both_happens visit _ _ Stands (both_then _ _ _ _ Stands Stands (keeps scope calls' calls after loops tied none passes f)
        (λ u later g. while_keeps turns condition line body' body faults demands loops later sides side_passes keeps none passes g)))
        (λ h. (refl, f)))

    -- ---- calls
    abbrev Suited : List Range → List ℤ → State → Type 0
    Suited params xs after = Suit xs params × Fits declared after

    arguments_keep : (es : List Expr) (params : List Range) (line : ℕ) (state : State)
        → exprs_faults es scope ≡ [] → AllPass test (exprs_demands es ranges) → Fits declared state
        → Both (argument_values (map watching es) params line scope calls' state) (argument_values (map evaluation es) params line scope calls state) (Suited params)
    arguments_keep [] params line state none passes fits = (refl, (tt, fits))
    arguments_keep (e ∷ es) [] line state none passes fits = (refl, (tt, fits))
    arguments_keep (e ∷ es) (range ∷ params) line state none passes fits =
        let d = expr_demands e ranges in
        both_then _ _ _ _ (Lying e) (Suited (range ∷ params)) (value e state (first_empty (expr_faults e scope) _ none) (pass_first test d _ passes) fits)
        (λ x after p. both_if (is_within x range) _ _ (traps kind.Range line) (traps kind.Range line) (Suited (range ∷ params))
        (λ h. both_then _ _ _ _ (Suited params) (Suited (range ∷ params)) (arguments_keep es params line after (second_empty (expr_faults e scope) _ none) (pass_second test d _ passes) p.1)
        (λ xs later q. (refl, ((h, q.0), q.1))))
        (λ h. (refl, tt)))

    call_keeps : (o : Option Declared) (es : List Expr) (name_line line : ℕ) (state : State)
        → IsAmong declared o → as_procedure o (length es) name_line ≡ []
        → exprs_faults es scope ≡ [] → AllPass test (exprs_demands es ranges) → Fits declared state
        → Both (procedure_call o (map watching es) line scope calls' state) (procedure_call o (map evaluation es) line scope calls state) Stands
    call_keeps (Some (procedure k params)) es name_line line state among none nones passes fits =
        both_then _ _ _ _ (Suited params) Stands (arguments_keep es params line state nones passes fits)
        (λ xs after p. (tied.agree k params xs after among p.0 p.1, tied.keep k params xs after among p.0 p.1))
    call_keeps (Some (variable k range)) es name_line line state among none nones passes fits = absurd (not_empty _ _ none)
    call_keeps (Some (array k len range)) es name_line line state among none nones passes fits = absurd (not_empty _ _ none)
    call_keeps None es name_line line state among none nones passes fits = absurd (not_empty _ _ none)

  -- ---- statements
  assign_keeps : (to : Place) (e : Expr) (line : ℕ)
      → Keeps (execution_of_node watching (statement.Assign to e line)) (execution_of_node evaluation (statement.Assign to e line)) (faults_of_node (statement.Assign to e line)) (demands_of_node (statement.Assign to e line))
  assign_keeps to e line scope calls' calls state loops tied none passes fits =
      let d = place_demands to (range_at scope) in
      both_happens visit _ _ Stands
      (both_then _ _ _ _ (LiesAndFits declared test elsewhere (interval_of e (range_at scope))) Stands
      (value scope calls' calls tied e state (second_empty (place_faults to scope loops) _ none) (pass_second test d _ passes) fits)
      (λ x after p. put_keeps scope calls' calls tied to x kind.Range line line after loops (first_empty (place_faults to scope loops) _ none) (pass_first test d _ passes) p.1))

  print_keeps : (e : Expr) (line : ℕ)
      → Keeps (execution_of_node watching (statement.Print e line)) (execution_of_node evaluation (statement.Print e line)) (faults_of_node (statement.Print e line)) (demands_of_node (statement.Print e line))
  print_keeps e line scope calls' calls state loops tied none passes fits =
      both_happens visit _ _ Stands
      (both_then _ _ _ _ (LiesAndFits declared test elsewhere (interval_of e (range_at scope))) Stands
      (value scope calls' calls tied e state none passes fits)
      (λ x after p. (refl, p.1)))

  if_keeps : (condition : Condition) (first second : List Statement) (line : ℕ)
      → EachOf KeepsStatement first → EachOf KeepsStatement second
      → Keeps (execution_of_node watching (statement.If condition (map (execution_by watching) first) (map (execution_by watching) second) line))
      (execution_of_node evaluation (statement.If condition (map (execution_by evaluation) first) (map (execution_by evaluation) second) line))
      (faults_of_node (statement.If condition (map statement_faults first) (map statement_faults second) line))
      (demands_of_node (statement.If condition (map statement_demands first) (map statement_demands second) line))
  if_keeps condition first second line ka kb scope calls' calls state loops tied none passes fits =
      let r = range_at scope in
      let lists = second_empty (condition_faults condition scope) _ none in
      let rest = pass_second test (condition_demands condition r) _ passes in
      both_happens visit _ _ Stands
      (both_then _ _ _ _ Told Stands
      (test_keeps scope calls' calls tied condition state (first_empty (condition_faults condition scope) _ none) (pass_first test (condition_demands condition r) _ passes) fits)
      (λ t after f. both_if t _ _ _ _ Stands
      (λ h. list_keeps first ka scope calls' calls after loops tied (first_empty (all_faults (map statement_faults first) scope loops) _ lists) (pass_first test (all_demands (map statement_demands first) r) _ rest) f)
      (λ h. list_keeps second kb scope calls' calls after loops tied (second_empty (all_faults (map statement_faults first) scope loops) _ lists) (pass_second test (all_demands (map statement_demands first) r) _ rest) f)))

  loop_keeps : (name : SourceName) (first last : Expr) (body : List Statement) (line : ℕ)
      → EachOf KeepsStatement body
      → Keeps (execution_of_node watching (statement.For name first last (map (execution_by watching) body) line))
      (execution_of_node evaluation (statement.For name first last (map (execution_by evaluation) body) line))
      (faults_of_node (statement.For name first last (map statement_faults body) line))
      (demands_of_node (statement.For name first last (map statement_demands body) line))
  loop_keeps name first last body line kb scope calls' calls state loops tied none passes fits =
      let r = range_at scope in
      let o = lookup name.bytes scope in
      let one = second_empty (as_assigned o name.line loops) _ none in
      let two = second_empty (expr_faults first scope) _ one in
      let more = pass_second test (expr_demands first r) _ passes in
      both_happens visit _ _ Stands
      (both_then _ _ _ _ (LiesAndFits declared test elsewhere (interval_of first r)) Stands
      (value scope calls' calls tied first state (first_empty (expr_faults first scope) _ one) (pass_first test (expr_demands first r) _ passes) fits)
      (λ a after p. both_then _ _ _ _ (LiesAndFits declared test elsewhere (interval_of last r)) Stands
      (value scope calls' calls tied last after (first_empty (expr_faults last scope) _ two) (pass_first test (expr_demands last r) _ more) p.1)
      (λ b later q. for_keeps scope calls' calls tied (turns_of a b) a name.bytes line (in_order (map (execution_by watching) body)) (in_order (map (execution_by evaluation) body))
      (all_faults (map statement_faults body)) (all_demands (map statement_demands body)) (with_loop o loops) later (list_keeps body kb)
      (second_empty (expr_faults last scope) _ two) (pass_second test (expr_demands last r) _ more) q.1)))

  repeat_keeps : (condition : Condition) (turns : ℤ) (body : List Statement) (line : ℕ)
      → EachOf KeepsStatement body
      → Keeps (execution_of_node watching (statement.While condition turns (map (execution_by watching) body) line))
      (execution_of_node evaluation (statement.While condition turns (map (execution_by evaluation) body) line))
      (faults_of_node (statement.While condition turns (map statement_faults body) line))
      (demands_of_node (statement.While condition turns (map statement_demands body) line))
  repeat_keeps condition turns body line kb scope calls' calls state loops tied none passes fits =
      let r = range_at scope in
      both_happens visit _ _ Stands
      (while_keeps scope calls' calls tied (unsigned_abs turns) condition line (in_order (map (execution_by watching) body)) (in_order (map (execution_by evaluation) body))
      (all_faults (map statement_faults body)) (all_demands (map statement_demands body)) loops state
      (first_empty (condition_faults condition scope) _ none) (pass_first test (condition_demands condition r) _ passes) (list_keeps body kb)
      (second_empty (condition_faults condition scope) _ none) (pass_second test (condition_demands condition r) _ passes) fits)

  pub every_statement : (s : Statement) → KeepsStatement s
  every_statement =
      each_statement KeepsStatement
      (λ to e line. at (Assign to e line) _ _ _ _ (fold-Assign (execution_of_node watching) to e line) (fold-Assign (execution_of_node evaluation) to e line) (fold-Assign faults_of_node to e line) (fold-Assign demands_of_node to e line) (assign_keeps to e line))
      (λ e line. at (Print e line) _ _ _ _ (fold-Print (execution_of_node watching) e line) (fold-Print (execution_of_node evaluation) e line) (fold-Print faults_of_node e line) (fold-Print demands_of_node e line) (print_keeps e line))
      (λ to line. at (Read to line) _ _ _ _ (fold-Read (execution_of_node watching) to line) (fold-Read (execution_of_node evaluation) to line) (fold-Read faults_of_node to line) (fold-Read demands_of_node to line)
      (λ scope calls' calls state loops tied none passes fits. both_happens visit _ _ Stands (read_keeps scope calls' calls tied to line state.input state loops none passes fits)))
      (λ condition first second line ka kb. at (If condition first second line) _ _ _ _ (fold-If (execution_of_node watching) condition first second line) (fold-If (execution_of_node evaluation) condition first second line) (fold-If faults_of_node condition first second line) (fold-If demands_of_node condition first second line)
      (if_keeps condition first second line ka kb))
      (λ name first last body line kb. at (For name first last body line) _ _ _ _ (fold-For (execution_of_node watching) name first last body line) (fold-For (execution_of_node evaluation) name first last body line) (fold-For faults_of_node name first last body line) (fold-For demands_of_node name first last body line)
      (loop_keeps name first last body line kb))
      (λ condition turns body line kb. at (While condition turns body line) _ _ _ _ (fold-While (execution_of_node watching) condition turns body line) (fold-While (execution_of_node evaluation) condition turns body line) (fold-While faults_of_node condition turns body line) (fold-While demands_of_node condition turns body line)
      (repeat_keeps condition turns body line kb))
      (λ name es line. at (Call name es line) _ _ _ _ (fold-Call (execution_of_node watching) name es line) (fold-Call (execution_of_node evaluation) name es line) (fold-Call faults_of_node name es line) (fold-Call demands_of_node name es line)
      (λ scope calls' calls state loops tied none passes fits.
      let o = lookup name.bytes scope in
      both_happens visit _ _ Stands (call_keeps scope calls' calls tied o es name.line line state (tied.names name.bytes)
      (first_empty (as_procedure o (length es) name.line) _ none) (second_empty (as_procedure o (length es) name.line) _ none) passes fits)))
    where
      at : (s : Statement) (ex' ex : Execution) (faults : Faults) (demands : Ranges → List Demand)
          → execution_by watching s ≡ ex' → execution_by evaluation s ≡ ex → statement_faults s ≡ faults → statement_demands s ≡ demands
          → Keeps ex' ex faults demands → KeepsStatement s
      at s ex' ex faults demands is' is is_faults is_demands keeps =
          subst (λ x. Keeps x (execution_by evaluation s) (statement_faults s) (statement_demands s)) (sym is')
          (subst (λ x. Keeps ex' x (statement_faults s) (statement_demands s)) (sym is)
          (subst (λ f. Keeps ex' ex f (statement_demands s)) (sym is_faults)
          (subst (λ d. Keeps ex' ex faults d) (sym is_demands) keeps)))

  pub statements_keep : (l : List Statement)
      → Keeps (in_order (map (execution_by watching) l)) (in_order (map (execution_by evaluation) l)) (all_faults (map statement_faults l)) (all_demands (map statement_demands l))
  statements_keep l = list_keeps l (each_of KeepsStatement every_statement l)
