-- To watch the values of expressions changes nothing in what a source means.
use Rattle.std.proofs.Common.{◌≡◌, ℕ, ◌+◌, ℤ, ◌≤ℤ◌, List, [], ◌∷◌, ◌++◌, length, map, refl, sym, subst, arith, Bool, true, false, Some}
use Rattle.std.specs.Prelude.{zero, suc, pos, if◌then◌else◌, ⊤, slice_get, nat_eq, int_lt}
use Rattle.std.proofs.lemmas.Bool.Decides.{nat_tests}
use Rattle.std.proofs.lemmas.Int.{ints}
use Rattle.name_check.specs.Names.{where_broken, as_new, range_faults, variables_faults, params_faults, locals_faults, declaration_faults, procedures_in, most_procedures, all_faults, statement_faults, faults_of_rest, name_faults}
use Rattle.name_check.specs.declared.fault.NameFault.TheVariants.{BadRange, EmptyArray, TooMany}
use Rattle.std.specs.Ordering.{int_eq}
use Rattle.source_tree.specs.State.{State, with_integers}
use Rattle.source_tree.specs.Run.{Run}
use Rattle.source_tree.specs.Scope.{Declared, variable, procedure, Scope, with_params, inside, with_declared, names_in, with_all_declared, range_at}
use Rattle.source_tree.specs.Expression.{Calls, Evaluation, evaluation}
use Rattle.source_tree.specs.Statement.{in_order, execution_by}
use Rattle.source_tree.specs.Meaning.{at_start, locals_set, call_of, no_calls, with_call, with_all_calls, meaning_by, meaning}
use Rattle.source_tree.specs.Fits.{variables_from, params_declared, locals_declared, declared_in, all_declared, declared_by, Fits, HasRange, HaveRanges, IsScopeOf, Suit, KeepFits}
use Rattle.source_tree.specs.declared.name.Name.{Name}
use Rattle.source_tree.specs.declared.name.Range.{Range}
use Rattle.source_tree.specs.declared.expression.Expr.{Expr}
use Rattle.source_tree.specs.declared.statement.Statement.{Statement}
use Rattle.source_tree.specs.declared.declaration.Param.{Param}
use Rattle.source_tree.specs.declared.declaration.Local.{Local}
use Rattle.source_tree.specs.declared.declaration.Declaration.{Declaration}
use Rattle.source_tree.specs.declared.declaration.Declaration.TheVariants.{Var, Array, Proc}
use Rattle.source_tree.specs.declared.declaration.Program.{Program}
use Rattle.source_tree.proofs.RunLaws.{and_then_agrees}
use Rattle.source_tree.proofs.FitsLemmas.{same_number, StandsAt, stands_whole, with_integers_fits}
use Rattle.source_tree.proofs.FitsStatements.{Kept, evaluation_keeps}
use Rattle.source_tree.proofs.FitsPrograms.{stands_first, stands_rest, stands_params, scope_variables, scope_declared, scope_all_declared, locals_keep, nothing_keeps, with_call_keeps, all_calls_keep, start_fits}
use Rattle.range_inference.specs.Demands.{params_demands, locals_demands, statements_demands, declaration_demands, declarations_demands, statement_demands, all_demands, demands_of}
use Rattle.range_inference.specs.Watched.{watched_evaluation}
use Rattle.range_inference.specs.declared.interval.Interval.{Interval}
use Rattle.range_inference.proofs.Passing.{AllPass, pass_first, pass_second, all_demands-map}
use Rattle.range_inference.proofs.SameRuns.{not_empty, first_empty, second_empty}
use Rattle.range_inference.proofs.WatchedExpressions.{Tied}
use Rattle.range_inference.proofs.WatchedStatements.{statements_keep}

-- ---- no declared range is empty
abbrev AllHave : List Declared → Type 0
AllHave [] = Unit {0}
AllHave (d ∷ ds) = HasRange (Some d) × AllHave ds

have-append : (a b : List Declared) → AllHave a → AllHave b → AllHave (a ++ b)
have-append [] b h k = k
have-append (d ∷ a) b h k = (h.0, have-append a b h.1 k)

have_ranges : (ds : List Declared) → AllHave ds → HaveRanges ds
have_ranges [] h j = tt
have_ranges (d ∷ ds) h zero = h.0
have_ranges (d ∷ ds) h (suc j) = have_ranges ds h.1 j

not_empty_range : (range : Range) (line : ℕ) → range_faults range line ≡ [] → range.low ≤ℤ range.high
not_empty_range range line none = of (int_lt range.high range.low) refl none
  where
    of : (t : Bool) → int_lt range.high range.low ≡ t → where_broken t (BadRange line) ≡ [] → range.low ≤ℤ range.high
    of true e h = absurd (not_empty _ _ h)
    of false e h = grind (arith, ints, nat_tests)

variables_have : {A : Type 0} (name : A → Name) (range : A → Range) (k : ℕ) (xs : List A) (scope : Scope) → variables_faults name range k xs scope ≡ [] → AllHave (variables_from k (map range xs))
variables_have name range k [] scope none = tt
variables_have name range k (x ∷ xs) scope none =
    let one = second_empty (as_new (name x) scope) _ none in (
      not_empty_range (range x) (name x).line (first_empty (range_faults (range x) (name x).line) _ one),
      variables_have name range (k + 1) xs (scope ++ ((name x).bytes, variable k (range x)) ∷ []) (second_empty (range_faults (range x) (name x).line) _ one),
    )

declaration_has : (k procedures : ℕ) (d : Declaration) (scope : Scope) → declaration_faults k procedures d scope ≡ [] → AllHave (declared_in k d)
declaration_has k procedures (Var name range line) scope none =
    (not_empty_range range line (second_empty (as_new name scope) _ none), tt)
declaration_has k procedures (Array name len range line) scope none =
    let one = second_empty (as_new name scope) _ none in
    (not_empty_range range line (second_empty (where_broken (int_eq len (pos 0)) (EmptyArray name.line)) _ one), tt)
declaration_has k procedures (Proc name params locals body line) scope none =
    let one = second_empty (as_new name scope) _ none in
    let two = second_empty (where_broken (nat_eq procedures most_procedures) (TooMany name.line)) _ one in
    let three = second_empty (params_faults (k + 1) params scope) _ two in (
      tt,
      have-append (params_declared (k + 1) params) (locals_declared (k + 1 + length params) locals)
          (variables_have (λ p. p.name) (λ p. p.range) (k + 1) params scope (first_empty (params_faults (k + 1) params scope) _ two))
          (variables_have (λ l. l.name) (λ l. l.range) (k + 1 + length params) locals (with_params (k + 1) params scope) (first_empty (locals_faults (k + 1 + length params) locals (with_params (k + 1) params scope)) _ three)),
    )

all_have : (k procedures : ℕ) (ds : List Declaration) (statements : List Statement) (scope : Scope) → faults_of_rest k procedures ds statements scope ≡ [] → AllHave (all_declared k ds)
all_have k procedures [] statements scope none = tt
all_have k procedures (d ∷ ds) statements scope none =
    let own = declaration_faults k procedures d scope in
    have-append (declared_in k d) (all_declared (k + names_in d) ds) (declaration_has k procedures d scope (first_empty own _ none))
    (all_have (k + names_in d) (procedures + procedures_in d) ds statements (with_declared k d scope) (second_empty own _ none))

-- the statements of a source keep the rules in the scope of all its declarations
statements_sound : (k procedures : ℕ) (ds : List Declaration) (statements : List Statement) (scope : Scope) → faults_of_rest k procedures ds statements scope ≡ []
    → all_faults (map statement_faults statements) (with_all_declared k ds scope) [] ≡ []
statements_sound k procedures [] statements scope none = none
statements_sound k procedures (d ∷ ds) statements scope none =
    statements_sound (k + names_in d) (procedures + procedures_in d) ds statements (with_declared k d scope) (second_empty (declaration_faults k procedures d scope) _ none)

module _ (declared : List Declared) (ranges : HaveRanges declared) (test : Interval → ℤ → Bool) (elsewhere : Run ℤ) where
  abbrev watching : Expr → Evaluation
  watching = watched_evaluation test elsewhere

  abbrev Agree : Calls → Calls → Type 0
  Agree calls' calls =
      (k : ℕ) (params : List Range) (arguments : List ℤ) (state : State)
      → slice_get declared k ≡ Some (procedure k params) → Suit arguments params → Fits declared state
      → calls' k arguments state ≡ calls k arguments state

  body_passes : (body : List Statement) (scope : Scope) → AllPass test (statements_demands body (range_at scope)) → AllPass test (all_demands (map statement_demands body) (range_at scope))
  body_passes body scope h = subst (λ ds. AllPass test ds) (sym (all_demands-map body (range_at scope))) h

  abbrev call_by : (Expr → Evaluation) → ℕ → List Param → List Local → List Statement → Scope → Calls → List ℤ → State → Run ⊤
  call_by meant k params locals body scope calls = call_of k params locals (in_order (map (execution_by meant) body)) scope calls

  call_agrees : (k : ℕ) (params : List Param) (locals : List Local) (body : List Statement) (scope : Scope) (calls' calls : Calls)
      → StandsAt declared (k + 1) (params_declared (k + 1) params ++ locals_declared (k + 1 + length params) locals)
      → IsScopeOf declared scope → KeepFits declared calls → Agree calls' calls
      → all_faults (map statement_faults body) (inside k params locals scope) [] ≡ []
      → AllPass test (statements_demands body (range_at (inside k params locals scope)))
      → (arguments : List ℤ) (state : State) → Suit arguments (map (λ p. p.range) params) → Fits declared state
      → call_by watching k params locals body scope calls' arguments state ≡ call_by evaluation k params locals body scope calls arguments state
  call_agrees k params locals body scope calls' calls h s keep agree none passes arguments state suit fits =
      let own = stands_params declared k params locals h in
      let set = with_integers (k + 1) arguments state in
      let held = with_integers_fits declared (k + 1) (map (λ p. p.range) params) arguments state own.0 suit fits in
      let within : Scope = inside k params locals scope in
      let names = scope_variables declared (λ l. l.name) (λ l. l.range) (k + 1 + length params) locals _ own.1 (scope_variables declared (λ p. p.name) (λ p. p.range) (k + 1) params scope own.0 s) in
      let tied : Tied declared within calls' calls = record { names = names; keep = keep; agree = agree } in
      and_then_agrees (locals_set (k + 1 + length params) locals set)
      (λ u after. in_order (map (execution_by watching) body) within calls' after)
      (λ u after. in_order (map (execution_by evaluation) body) within calls after)
      (Kept declared ⊤) (locals_keep declared ranges (k + 1 + length params) locals set own.1 held)
      (λ u after f. (statements_keep declared test elsewhere body within calls' calls after [] tied none (body_passes body within passes) f).0)

  same_params : (j k : ℕ) (params others : List Range)
      → slice_get declared j ≡ Some (procedure k params) → slice_get declared j ≡ Some (procedure j others) → others ≡ params
  same_params j k params others t u = cc

  with_call_agrees : (k procedures : ℕ) (d : Declaration) (scope : Scope) (calls' calls : Calls)
      → StandsAt declared k (declared_in k d) → IsScopeOf declared scope → KeepFits declared calls → Agree calls' calls
      → declaration_faults k procedures d scope ≡ [] → AllPass test (declaration_demands k d scope)
      → Agree (with_call watching k d scope calls') (with_call evaluation k d scope calls)
  with_call_agrees k procedures (Var name range line) scope calls' calls h s keep agree none passes = agree
  with_call_agrees k procedures (Array name len range line) scope calls' calls h s keep agree none passes = agree
  with_call_agrees k procedures (Proc name params locals body line) scope calls' calls h s keep agree none passes =
      λ j others arguments state t suit fits. of j others arguments state t suit fits (nat_eq j k) refl
    where
      sound : all_faults (map statement_faults body) (inside k params locals scope) [] ≡ []
      sound =
          let one = second_empty (as_new name scope) _ none in
          let two = second_empty (where_broken (nat_eq procedures most_procedures) (TooMany name.line)) _ one in
          let three = second_empty (params_faults (k + 1) params scope) _ two in
          second_empty (locals_faults (k + 1 + length params) locals (with_params (k + 1) params scope)) _ three

      inner : AllPass test (statements_demands body (range_at (inside k params locals scope)))
      inner = pass_second test (locals_demands locals) _ (pass_second test (params_demands params) _ passes)

      of : (j : ℕ) (others : List Range) (arguments : List ℤ) (state : State)
          → slice_get declared j ≡ Some (procedure j others) → Suit arguments others → Fits declared state
          → (b : Bool) → nat_eq j k ≡ b
          → (if b then call_by watching k params locals body scope calls' else calls' j) arguments state
          ≡ (if b then call_by evaluation k params locals body scope calls else calls j) arguments state
      of j others arguments state t suit fits true e =
          let here : slice_get declared j ≡ Some (procedure k (map (λ p. p.range) params)) =
          subst (λ i. slice_get declared i ≡ Some (procedure k (map (λ p. p.range) params))) (same_number j k e) h.0 in
          call_agrees k params locals body scope calls' calls h.1 s keep agree sound inner arguments state
          (subst (λ ps. Suit arguments ps) (same_params j k (map (λ p. p.range) params) others here t) suit) fits
      of j others arguments state t suit fits false e = agree j others arguments state t suit fits

  all_calls_agree : (k procedures : ℕ) (ds : List Declaration) (statements : List Statement) (scope : Scope) (calls' calls : Calls)
      → StandsAt declared k (all_declared k ds) → IsScopeOf declared scope → KeepFits declared calls → Agree calls' calls
      → faults_of_rest k procedures ds statements scope ≡ [] → AllPass test (declarations_demands k ds scope)
      → Agree (with_all_calls watching k ds scope calls') (with_all_calls evaluation k ds scope calls)
  all_calls_agree k procedures [] statements scope calls' calls h s keep agree none passes = agree
  all_calls_agree k procedures (d ∷ ds) statements scope calls' calls h s keep agree none passes =
      let first = stands_first declared k d ds h in
      let own = declaration_faults k procedures d scope in
      let d_demands = declaration_demands k d scope in
      all_calls_agree (k + names_in d) (procedures + procedures_in d) ds statements (with_declared k d scope) _ _
      (stands_rest declared k d ds h) (scope_declared declared k d scope first s)
      (with_call_keeps declared ranges evaluation (evaluation_keeps declared) k d scope calls first s keep)
      (with_call_agrees k procedures d scope calls' calls first s keep agree (first_empty own _ none) (pass_first test d_demands _ passes))
      (second_empty own _ none) (pass_second test d_demands _ passes)

-- ---- programs
pub tests_pass : (program : Program) (input : List ℤ) (test : Interval → ℤ → Bool) (elsewhere : Run ℤ)
    → name_faults program ≡ [] → AllPass test (demands_of program)
    → meaning_by (watched_evaluation test elsewhere) program input ≡ meaning program input
tests_pass program input test elsewhere none passes =
    let declared = declared_by program in
    let ranges = have_ranges declared (all_have 0 0 program.declarations program.statements [] none) in
    let whole = stands_whole declared in
    let scope = with_all_declared 0 program.declarations [] in
    let first = declarations_demands 0 program.declarations [] in
    let tied : Tied declared scope (with_all_calls (watched_evaluation test elsewhere) 0 program.declarations [] no_calls) (with_all_calls evaluation 0 program.declarations [] no_calls) = record {
      names = scope_all_declared declared 0 program.declarations [] whole (λ x. tt);
      keep = all_calls_keep declared ranges evaluation (evaluation_keeps declared) 0 program.declarations [] no_calls whole (λ x. tt) (nothing_keeps declared ranges);
      agree = all_calls_agree declared ranges test elsewhere 0 0 program.declarations program.statements [] no_calls no_calls whole (λ x. tt) (nothing_keeps declared ranges) (λ k params arguments state t suit fits. refl) none (pass_first test first _ passes);
    } in
    (statements_keep declared test elsewhere program.statements scope _ _ (at_start program.declarations input) [] tied
    (statements_sound 0 0 program.declarations program.statements [] none)
    (body_passes declared ranges test elsewhere program.statements scope (pass_second test first _ passes))
    (start_fits program input ranges)).0
