-- The procedures of a resolved tree do what those of the source do.
use Rattle.std.proofs.Common.{◌≡◌, ℕ, ◌+◌, ◌≤◌, ℤ, List, [], ◌∷◌, ◌++◌, length, map, refl, ap, ◌∙◌, subst, arith, Bool, true, false, Some, length-append}
use Rattle.std.specs.Prelude.{if◌then◌else◌, ⊤, slice_get, nat_eq, nat_lt}
use Rattle.std.proofs.lemmas.Bool.Decides.{nat_tests}
use Rattle.std.proofs.lemmas.List.{length-map}
use Rattle.moduli_sets.specs.declared.kind.Kind.TheVariants as kind
use Rattle.source_tree.specs.State.{State, with_at, with_integer, with_integers}
use Rattle.source_tree.specs.Run.{Run, visit, traps, happens, and_then}
use Rattle.source_tree.specs.Scope.{Declared, procedure, Scope, inside, with_declared, names_in}
use Rattle.source_tree.specs.Expression.{Calls}
use Rattle.source_tree.specs.Statement.{in_order, nothing_done, execution_by}
use Rattle.source_tree.specs.Meaning.{start_of}
use Rattle.source_tree.specs.Meaning as source
use Rattle.source_tree.specs.Fits.{params_declared, locals_declared, declared_in, all_declared, IsScopeOf}
use Rattle.source_tree.specs.declared.statement.Statement.{Statement}
use Rattle.source_tree.specs.declared.declaration.Declaration.{Declaration}
use Rattle.source_tree.specs.declared.declaration.Declaration.TheVariants.{Var, Array, Proc}
use Rattle.source_tree.specs.declared.declaration.Local.{Local}
use Rattle.source_tree.specs.declared.declaration.Param.{Param}
use Rattle.source_tree.proofs.FitsLemmas.{same_number, StandsAt}
use Rattle.source_tree.proofs.FitsPrograms.{length-declared_in, stands_first, stands_rest, stands_params, scope_variables, scope_declared}
use Rattle.resolved_tree.specs.Meaning.{put_from, locals_set, call_of, steps_of, with_procedures}
use Rattle.resolved_tree.specs.Resolution.{resolved_statements, resolved_procedure, all_procedures_of}
use Rattle.resolved_tree.proofs.Rooms.{HasRoom}
use Rattle.resolved_tree.proofs.SameSteps.{Agree, all_same}
use Rattle.resolved_tree.proofs.SameValues.{watching}

-- ---- integers from a number on
module _ (size : ℕ) where
  pub put_from_same : (k : ℕ) (xs : List ℤ) (state : State) → k + length xs ≤ size → put_from size k xs state ≡ nothing_done (with_integers k xs state)
  put_from_same k [] state room = refl
  put_from_same k (x ∷ xs) state room =
      let below : nat_lt k size ≡ true = grind (arith, nat_tests) in
      ap (λ b. and_then (if b then nothing_done (with_integer k x state) else traps kind.Stack 0) (λ u. put_from size (k + 1) xs)) below
      ∙ put_from_same (k + 1) xs (with_integer k x state) (omega arith)

  pub locals_set_same : (k : ℕ) (locals : List Local) (state : State) → k + length locals ≤ size
      → locals_set size k (map (λ l. start_of l.range) locals) state ≡ source.locals_set k locals state
  locals_set_same k [] state room = refl
  locals_set_same k (l ∷ locals) state room =
      let below : nat_lt k size ≡ true = grind (arith, nat_tests) in
      ap (λ b. happens visit (and_then (if b then nothing_done (with_integer k (start_of l.range) state) else traps kind.Stack 0) (λ u. locals_set size (k + 1) (map (λ m. start_of m.range) locals)))) below
      ∙ ap (λ (r : Run ⊤). happens visit r) (locals_set_same (k + 1) locals (with_integer k (start_of l.range) state) (omega arith))

-- ---- procedures
module _ (declared : List Declared) (room : HasRoom declared) where
  abbrev size : ℕ
  size = length declared

  call_same : (k : ℕ) (params : List Param) (locals : List Local) (body : List Statement) (scope : Scope) (calls' calls : Calls)
      → StandsAt declared (k + 1) (params_declared (k + 1) params ++ locals_declared (k + 1 + length params) locals)
      → k + (1 + length params + length locals) ≤ size
      → IsScopeOf declared scope → Agree declared calls' calls
      → (arguments : List ℤ) (state : State) → length arguments ≤ length params
      → call_of size (resolved_procedure k params locals body scope) calls' arguments state
      ≡ source.call_of k params locals (in_order (map (execution_by watching) body)) scope calls arguments state
  call_same k params locals body scope calls' calls h enough s agree arguments state few =
      let own = stands_params declared k params locals h in
      let names : IsScopeOf declared (inside k params locals scope) =
      scope_variables declared (λ l. l.name) (λ l. l.range) (k + 1 + length params) locals _ own.1
      (scope_variables declared (λ p. p.name) (λ p. p.range) (k + 1) params scope own.0 s) in
      let for_params : k + 1 + length arguments ≤ size = omega arith in
      let for_locals : k + 1 + length params + length locals ≤ size = omega arith in
      let starts = map (λ l. start_of l.range) locals in
      let after_locals : ⊤ → State → Run ⊤ = λ v. steps_of size (resolved_statements body (inside k params locals scope)) calls' in
      let set = with_integers (k + 1) arguments state in
      ap (λ (r : Run ⊤). and_then r (λ u after. and_then (locals_set size (k + 1 + length params) starts after) after_locals)) (put_from_same size (k + 1) arguments state for_params)
      ∙ (λ j. and_then (locals_set_same size (k + 1 + length params) locals set for_locals j) (λ u after. all_same declared room body (inside k params locals scope) calls' calls after names agree j))

  with_call_same : (k : ℕ) (params : List Param) (locals : List Local) (body : List Statement) (scope : Scope) (calls' calls : Calls)
      → slice_get declared k ≡ Some (procedure k (map (λ p. p.range) params))
      → StandsAt declared (k + 1) (params_declared (k + 1) params ++ locals_declared (k + 1 + length params) locals)
      → k + (1 + length params + length locals) ≤ size
      → IsScopeOf declared scope → Agree declared calls' calls
      → Agree declared (with_at calls' k (call_of size (resolved_procedure k params locals body scope) calls'))
      (with_at calls k (source.call_of k params locals (in_order (map (execution_by watching) body)) scope calls))
  with_call_same k params locals body scope calls' calls here h enough s agree j others arguments state t few = of (nat_eq j k) refl
    where
      of : (b : Bool) → nat_eq j k ≡ b
          → (if b then call_of size (resolved_procedure k params locals body scope) calls' else calls' j) arguments state
          ≡ (if b then source.call_of k params locals (in_order (map (execution_by watching) body)) scope calls else calls j) arguments state
      of true e =
          let at_j : slice_get declared j ≡ Some (procedure k (map (λ p. p.range) params)) =
          subst (λ i. slice_get declared i ≡ Some (procedure k (map (λ p. p.range) params))) (same_number j k e) here in
          let same : others ≡ map (λ p. p.range) params = cc in
          let n : length (map (λ p. p.range) params) ≡ length params = length-map params (λ (p : Param). p.range) in
          let m : length others ≡ length (map (λ p. p.range) params) = ap length same in
          call_same k params locals body scope calls' calls h enough s agree arguments state (omega arith)
      of false e = agree j others arguments state t few

  -- how much is declared, by the first declaration and by the rest
  rest_declared : (k : ℕ) (d : Declaration) (ds : List Declaration)
      → length (all_declared k (d ∷ ds)) ≡ names_in d + length (all_declared (k + names_in d) ds)
  rest_declared k d ds =
      length-append (declared_in k d) (all_declared (k + names_in d) ds)
      ∙ ap (λ n. n + length (all_declared (k + names_in d) ds)) (length-declared_in k d)

  rest_enough : (k : ℕ) (d : Declaration) (ds : List Declaration) → k + length (all_declared k (d ∷ ds)) ≤ size
      → k + names_in d + length (all_declared (k + names_in d) ds) ≤ size
  rest_enough k d ds enough =
      let e : length (all_declared k (d ∷ ds)) ≡ names_in d + length (all_declared (k + names_in d) ds) = rest_declared k d ds in omega arith

  first_enough : (k : ℕ) (d : Declaration) (ds : List Declaration) → k + length (all_declared k (d ∷ ds)) ≤ size → k + names_in d ≤ size
  first_enough k d ds enough =
      let e : length (all_declared k (d ∷ ds)) ≡ names_in d + length (all_declared (k + names_in d) ds) = rest_declared k d ds in omega arith

  abbrev Same : ℕ → List Declaration → Type 0
  Same k ds =
      (scope : Scope) (calls' calls : Calls)
      → StandsAt declared k (all_declared k ds) → k + length (all_declared k ds) ≤ size
      → IsScopeOf declared scope → Agree declared calls' calls
      → Agree declared (with_procedures size (all_procedures_of k ds scope) calls') (source.with_all_calls watching k ds scope calls)

  declaration_same : (k : ℕ) (d : Declaration) (ds : List Declaration) → Same (k + names_in d) ds → Same k (d ∷ ds)
  declaration_same k (Var name range line) ds more scope calls' calls h enough s agree =
      let d = Var name range line in
      more (with_declared k d scope) calls' calls (stands_rest declared k d ds h) (rest_enough k d ds enough)
      (scope_declared declared k d scope (stands_first declared k d ds h) s) agree
  declaration_same k (Array name len range line) ds more scope calls' calls h enough s agree =
      let d = Array name len range line in
      more (with_declared k d scope) calls' calls (stands_rest declared k d ds h) (rest_enough k d ds enough)
      (scope_declared declared k d scope (stands_first declared k d ds h) s) agree
  declaration_same k (Proc name params locals body line) ds more scope calls' calls h enough s agree =
      let d = Proc name params locals body line in
      let first = stands_first declared k d ds h in
      more (with_declared k d scope) _ _ (stands_rest declared k d ds h) (rest_enough k d ds enough)
      (scope_declared declared k d scope first s)
      (with_call_same k params locals body scope calls' calls first.0 first.1 (first_enough k d ds enough) s agree)

  pub all_calls_same : (k : ℕ) (ds : List Declaration) → Same k ds
  all_calls_same k [] scope calls' calls h enough s agree = agree
  all_calls_same k (d ∷ ds) scope calls' calls h enough s agree =
      declaration_same k d ds (all_calls_same (k + names_in d) ds) scope calls' calls h enough s agree
