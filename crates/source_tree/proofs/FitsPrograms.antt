-- The start of a source fits, its calls keep what fits, and so does the whole.
use Rattle.std.proofs.Common.{◌≡◌, ℕ, suc, ◌+◌, ◌<◌, ℤ, ◌≤ℤ◌, List, [], ◌∷◌, ◌++◌, length, map, refl, sym, ap, ◌∙◌, subst, arith, Bool, true, false, Some, replicate, length-append}
use Rattle.std.specs.Prelude.{if◌then◌else◌, ⊤, slice_get, unsigned_abs, nat_eq, nat_lt}
use Rattle.std.proofs.lemmas.Bool.Decides.{nat_tests}
use Rattle.std.proofs.lemmas.List.{length-replicate, length-map}
use Rattle.std.proofs.lemmas.List.Elements.{All-replicate}
use Rattle.std.proofs.lemmas.Option.{slice_get_past}
use Rattle.source_tree.specs.State.{State, with_integer, with_array, with_integers}
use Rattle.source_tree.specs.Run.{Run, Leads}
use Rattle.source_tree.specs.Scope.{Declared, variable, array, procedure, Scope, with_variables, inside, with_declared, names_in, with_all_declared, is_within}
use Rattle.source_tree.specs.Expression.{Calls, Evaluation}
use Rattle.source_tree.specs.Statement.{in_order, execution_by}
use Rattle.source_tree.specs.Meaning.{start_of, with_start, with_all_started, at_start, locals_set, call_of, no_calls, with_call, with_all_calls, meaning_by}
use Rattle.source_tree.specs.Fits.{variables_from, params_declared, locals_declared, declared_in, all_declared, declared_by, FitsAs, Fits, HasRange, HaveRanges, IsScopeOf, Suit, KeepFits}
use Rattle.source_tree.specs.declared.name.Name.{Name}
use Rattle.source_tree.specs.declared.name.Range.{Range}
use Rattle.source_tree.specs.declared.expression.Expr.{Expr}
use Rattle.source_tree.specs.declared.statement.Statement.{Statement}
use Rattle.source_tree.specs.declared.declaration.Param.{Param}
use Rattle.source_tree.specs.declared.declaration.Local.{Local}
use Rattle.source_tree.specs.declared.declaration.Declaration.{Declaration}
use Rattle.source_tree.specs.declared.declaration.Declaration.TheVariants.{Var, Array, Proc}
use Rattle.source_tree.specs.declared.declaration.Program.{Program}
use Rattle.source_tree.proofs.RunLaws.{leads_and_then}
use Rattle.source_tree.proofs.Inductions.{each_in_order}
use Rattle.source_tree.proofs.FitsLemmas.{same_number, start_within, StandsAt, stands_whole, stands_parts, with_integer_fits, with_integers_fits, scope_more}
use Rattle.source_tree.proofs.FitsStatements.{Kept, KeepsValue, Keeps, in_order_keeps, execution_keeps}

-- ---- numbers are places
pub length-variables_from : (k : ℕ) (ranges : List Range) → length (variables_from k ranges) ≡ length ranges
length-variables_from k [] = refl
length-variables_from k (range ∷ ranges) = ap suc (length-variables_from (k + 1) ranges)

length-params_declared : (k : ℕ) (params : List Param) → length (params_declared k params) ≡ length params
length-params_declared k params =
    length-variables_from k (map (λ p. p.range) params) ∙ length-map params (λ (p : Param). p.range)

length-locals_declared : (k : ℕ) (locals : List Local) → length (locals_declared k locals) ≡ length locals
length-locals_declared k locals =
    length-variables_from k (map (λ l. l.range) locals) ∙ length-map locals (λ (l : Local). l.range)

pub length-declared_in : (k : ℕ) (d : Declaration) → length (declared_in k d) ≡ names_in d
length-declared_in k (Var name range line) = refl
length-declared_in k (Array name len range line) = refl
length-declared_in k (Proc name params locals body line) =
    let ps = params_declared (k + 1) params in
    let ls = locals_declared (k + 1 + length params) locals in
    let e : length (ps ++ ls) ≡ length ps + length ls = length-append ps ls in
    let p : length ps ≡ length params = length-params_declared (k + 1) params in
    let l : length ls ≡ length locals = length-locals_declared (k + 1 + length params) locals in
    omega arith

module _ (declared : List Declared) where
  -- of the first declaration, and of the rest
  pub stands_first : (k : ℕ) (d : Declaration) (ds : List Declaration)
      → StandsAt declared k (all_declared k (d ∷ ds)) → StandsAt declared k (declared_in k d)
  stands_first k d ds h = (stands_parts declared k (declared_in k d) (all_declared (k + names_in d) ds) h).0

  pub stands_rest : (k : ℕ) (d : Declaration) (ds : List Declaration)
      → StandsAt declared k (all_declared k (d ∷ ds)) → StandsAt declared (k + names_in d) (all_declared (k + names_in d) ds)
  stands_rest k d ds h =
      subst (λ n. StandsAt declared (k + n) (all_declared (k + names_in d) ds)) (length-declared_in k d)
      (stands_parts declared k (declared_in k d) (all_declared (k + names_in d) ds) h).1

  -- of the parameters of a procedure, and of its locals
  pub stands_params : (k : ℕ) (params : List Param) (locals : List Local)
      → StandsAt declared (k + 1) (params_declared (k + 1) params ++ locals_declared (k + 1 + length params) locals)
      → StandsAt declared (k + 1) (params_declared (k + 1) params)
      × StandsAt declared (k + 1 + length params) (locals_declared (k + 1 + length params) locals)
  stands_params k params locals h =
      let ps = params_declared (k + 1) params in
      let ls = locals_declared (k + 1 + length params) locals in
      let both = stands_parts declared (k + 1) ps ls h in
      let e : length ps ≡ length params = length-params_declared (k + 1) params in
      (both.0, subst (λ n. StandsAt declared (k + 1 + n) ls) e both.1)

  -- ---- scopes
  pub scope_variables : {A : Type 0} (name : A → Name) (range : A → Range) (k : ℕ) (xs : List A) (scope : Scope)
      → StandsAt declared k (variables_from k (map range xs)) → IsScopeOf declared scope
      → IsScopeOf declared (with_variables name range k xs scope)
  scope_variables name range k [] scope h s = s
  scope_variables name range k (x ∷ xs) scope h s =
      scope_variables name range (k + 1) xs _ h.1 (scope_more declared scope (name x).bytes (variable k (range x)) h.0 s)

  pub scope_declared : (k : ℕ) (d : Declaration) (scope : Scope)
      → StandsAt declared k (declared_in k d) → IsScopeOf declared scope → IsScopeOf declared (with_declared k d scope)
  scope_declared k (Var name range line) scope h s = scope_more declared scope name.bytes (variable k range) h.0 s
  scope_declared k (Array name len range line) scope h s = scope_more declared scope name.bytes (array k len range) h.0 s
  scope_declared k (Proc name params locals body line) scope h s =
      scope_more declared scope name.bytes (procedure k (map (λ p. p.range) params)) h.0 s

  pub scope_all_declared : (k : ℕ) (ds : List Declaration) (scope : Scope)
      → StandsAt declared k (all_declared k ds) → IsScopeOf declared scope → IsScopeOf declared (with_all_declared k ds scope)
  scope_all_declared k [] scope h s = s
  scope_all_declared k (d ∷ ds) scope h s =
      scope_all_declared (k + names_in d) ds _ (stands_rest k d ds h) (scope_declared k d scope (stands_first k d ds h) s)

  module _ (ranges : HaveRanges declared) where
    range_at_place : (k : ℕ) (range : Range) → slice_get declared k ≡ Some (variable k range) → range.low ≤ℤ range.high
    range_at_place k range t = subst (λ o. HasRange o) t (ranges k)

    -- ---- calls
    pub locals_keep : (k : ℕ) (locals : List Local) (state : State)
        → StandsAt declared k (locals_declared k locals) → Fits declared state
        → Leads (locals_set k locals state) (Kept declared ⊤)
    locals_keep k [] state h fits = fits
    locals_keep k (l ∷ locals) state h fits =
        locals_keep (k + 1) locals (with_integer k (start_of l.range) state) h.1
        (with_integer_fits declared k l.range (start_of l.range) state h.0 (start_within l.range (range_at_place k l.range h.0)) fits)

    pub nothing_keeps : KeepFits declared no_calls
    nothing_keeps k params arguments state t suit fits = fits

    module _ (meant : Expr → Evaluation) (keeps : (e : Expr) → KeepsValue declared (meant e)) where
      pub statements_keep : (l : List Statement) → Keeps declared (in_order (map (execution_by meant) l))
      statements_keep l =
          in_order_keeps declared (map (execution_by meant) l)
          (each_in_order meant (Keeps declared) (execution_keeps declared meant keeps) l)

      abbrev meant_call : ℕ → List Param → List Local → List Statement → Scope → Calls → List ℤ → State → Run ⊤
      meant_call k params locals body scope calls =
          call_of k params locals (in_order (map (execution_by meant) body)) scope calls

      call_keeps : (k : ℕ) (params : List Param) (locals : List Local) (body : List Statement) (scope : Scope) (calls : Calls)
          → StandsAt declared (k + 1) (params_declared (k + 1) params ++ locals_declared (k + 1 + length params) locals)
          → IsScopeOf declared scope → KeepFits declared calls
          → (arguments : List ℤ) (state : State) → Suit arguments (map (λ p. p.range) params) → Fits declared state
          → Leads (meant_call k params locals body scope calls arguments state) (Kept declared ⊤)
      call_keeps k params locals body scope calls h s c arguments state suit fits =
          let own = stands_params k params locals h in
          let set = with_integers (k + 1) arguments state in
          let held = with_integers_fits declared (k + 1) (map (λ p. p.range) params) arguments state own.0 suit fits in
          leads_and_then (locals_set (k + 1 + length params) locals set) _ (Kept declared ⊤) (Kept declared ⊤)
          (locals_keep (k + 1 + length params) locals set own.1 held)
          (λ u after f. statements_keep body (inside k params locals scope) calls after
          (scope_variables (λ l. l.name) (λ l. l.range) (k + 1 + length params) locals _ own.1 (scope_variables (λ p. p.name) (λ p. p.range) (k + 1) params scope own.0 s)) c f)

      same_params : (j : ℕ) (k : ℕ) (params others : List Range)
          → slice_get declared j ≡ Some (procedure j params) → slice_get declared j ≡ Some (procedure k others) → others ≡ params
      same_params j k params others t u = cc

      pub with_call_keeps : (k : ℕ) (d : Declaration) (scope : Scope) (calls : Calls)
          → StandsAt declared k (declared_in k d) → IsScopeOf declared scope → KeepFits declared calls
          → KeepFits declared (with_call meant k d scope calls)
      with_call_keeps k (Var name range line) scope calls h s c = c
      with_call_keeps k (Array name len range line) scope calls h s c = c
      with_call_keeps k (Proc name params locals body line) scope calls h s c =
          λ j others arguments state t suit fits. of j others arguments state t suit fits (nat_eq j k) refl
        where
          of : (j : ℕ) (others : List Range) (arguments : List ℤ) (state : State)
              → slice_get declared j ≡ Some (procedure j others) → Suit arguments others → Fits declared state
              → (b : Bool) → nat_eq j k ≡ b
              → Leads ((if b then meant_call k params locals body scope calls else calls j) arguments state) (Kept declared ⊤)
          of j others arguments state t suit fits true e =
              let here : slice_get declared j ≡ Some (procedure k (map (λ p. p.range) params)) =
              subst (λ i. slice_get declared i ≡ Some (procedure k (map (λ p. p.range) params))) (same_number j k e) h.0 in
              call_keeps k params locals body scope calls h.1 s c arguments state
              (subst (λ ps. Suit arguments ps) (sym (same_params j k others (map (λ p. p.range) params) t here)) suit) fits
          of j others arguments state t suit fits false e = c j others arguments state t suit fits

      pub all_calls_keep : (k : ℕ) (ds : List Declaration) (scope : Scope) (calls : Calls)
          → StandsAt declared k (all_declared k ds) → IsScopeOf declared scope → KeepFits declared calls
          → KeepFits declared (with_all_calls meant k ds scope calls)
      all_calls_keep k [] scope calls h s c = c
      all_calls_keep k (d ∷ ds) scope calls h s c =
          all_calls_keep (k + names_in d) ds _ _ (stands_rest k d ds h) (scope_declared k d scope (stands_first k d ds h) s)
          (with_call_keeps k d scope calls (stands_first k d ds h) s c)

    -- ---- the start, as far as the declarations have come
    abbrev FitsBelow : ℕ → State → Type 0
    FitsBelow k state = (j : ℕ) → j < k → FitsAs (slice_get declared j) (state.integers j) (state.arrays j)

    below_next : (j k : ℕ) → nat_eq j k ≡ false → j < k + 1 → j < k
    below_next j k e h = grind (arith, nat_tests)

    integer_below : (k : ℕ) (range : Range) (state : State)
        → slice_get declared k ≡ Some (variable k range) → FitsBelow k state
        → FitsBelow (k + 1) (with_integer k (start_of range) state)
    integer_below k range state t fits j lt = of (nat_eq j k) refl
      where
        of : (b : Bool) → nat_eq j k ≡ b
            → FitsAs (slice_get declared j) (if b then start_of range else state.integers j) (state.arrays j)
        of true e =
            subst (λ i. FitsAs (slice_get declared i) (start_of range) (state.arrays j)) (same_number j k e)
            (subst (λ o. FitsAs o (start_of range) (state.arrays j)) (sym t) (start_within range (range_at_place k range t)))
        of false e = fits j (below_next j k e lt)

    array_below : (k : ℕ) (len : ℤ) (range : Range) (state : State)
        → slice_get declared k ≡ Some (array k len range) → FitsBelow k state
        → FitsBelow (k + 1) (with_array k (replicate (unsigned_abs len) (start_of range)) state)
    array_below k len range state t fits j lt = of (nat_eq j k) refl
      where
        of : (b : Bool) → nat_eq j k ≡ b
            → FitsAs (slice_get declared j) (state.integers j) (if b then replicate (unsigned_abs len) (start_of range) else state.arrays j)
        of true e =
            let low : range.low ≤ℤ range.high = subst (λ o. HasRange o) t (ranges k) in
            subst (λ i. FitsAs (slice_get declared i) (state.integers j) (replicate (unsigned_abs len) (start_of range))) (same_number j k e)
            (subst (λ o. FitsAs o (state.integers j) (replicate (unsigned_abs len) (start_of range))) (sym t) (
              length-replicate (unsigned_abs len) (start_of range),
              All-replicate (λ e. is_within e range ≡ true) (unsigned_abs len) (start_of range) (start_within range low),
            ))
        of false e = fits j (below_next j k e lt)

    nothing_below : (k : ℕ) (params : List Range) (state : State)
        → slice_get declared k ≡ Some (procedure k params) → FitsBelow k state → FitsBelow (k + 1) state
    nothing_below k params state t fits j lt = of (nat_eq j k) refl
      where
        of : (b : Bool) → nat_eq j k ≡ b → FitsAs (slice_get declared j) (state.integers j) (state.arrays j)
        of true e =
            subst (λ i. FitsAs (slice_get declared i) (state.integers j) (state.arrays j)) (same_number j k e)
            (subst (λ o. FitsAs o (state.integers j) (state.arrays j)) (sym t) tt)
        of false e = fits j (below_next j k e lt)

    starts_below : (X : Type 0) (range : X → Range) (k : ℕ) (xs : List X) (state : State)
        → StandsAt declared k (variables_from k (map range xs)) → FitsBelow k state
        → FitsBelow (k + length xs) (with_integers k (map (λ x. start_of (range x)) xs) state)
    starts_below X range k [] state h fits = let e : k ≡ k + 0 = omega arith in subst (λ n. FitsBelow n state) e fits
    starts_below X range k (x ∷ xs) state h fits =
        let e : k + 1 + length xs ≡ k + length (x ∷ xs) = omega arith in
        subst (λ n. FitsBelow n (with_integers (k + 1) (map (λ x. start_of (range x)) xs) (with_integer k (start_of (range x)) state))) e
        (starts_below X range (k + 1) xs _ h.1 (integer_below k (range x) state h.0 fits))

    start_below : (k : ℕ) (d : Declaration) (state : State)
        → StandsAt declared k (declared_in k d) → FitsBelow k state → FitsBelow (k + names_in d) (with_start k d state)
    start_below k (Var name range line) state h fits = integer_below k range state h.0 fits
    start_below k (Array name len range line) state h fits = array_below k len range state h.0 fits
    start_below k (Proc name params locals body line) state h fits =
        let own = stands_params k params locals h.1 in
        let e : k + 1 + length params + length locals ≡ k + (1 + length params + length locals) = omega arith in
        subst (λ n. FitsBelow n (with_start k (Proc name params locals body line) state)) e
        (starts_below Local (λ l. l.range) (k + 1 + length params) locals _ own.1
        (starts_below Param (λ p. p.range) (k + 1) params state own.0 (nothing_below k (map (λ p. p.range) params) state h.0 fits)))

    all_started_below : (k : ℕ) (ds : List Declaration) (state : State)
        → StandsAt declared k (all_declared k ds) → FitsBelow k state
        → FitsBelow (k + length (all_declared k ds)) (with_all_started k ds state)
    all_started_below k [] state h fits = let e : k ≡ k + 0 = omega arith in subst (λ n. FitsBelow n state) e fits
    all_started_below k (d ∷ ds) state h fits =
        let a = declared_in k d in
        let b = all_declared (k + names_in d) ds in
        let n : length a ≡ names_in d = length-declared_in k d in
        let m : length (a ++ b) ≡ length a + length b = length-append a b in
        let e : k + names_in d + length b ≡ k + length (a ++ b) = omega arith in
        subst (λ n. FitsBelow n (with_all_started (k + names_in d) ds (with_start k d state))) e
        (all_started_below (k + names_in d) ds _ (stands_rest k d ds h) (start_below k d state (stands_first k d ds h) fits))

    all_fits : (state : State) → FitsBelow (length declared) state → Fits declared state
    all_fits state fits j = of (nat_lt j (length declared)) refl
      where
        of : (b : Bool) → nat_lt j (length declared) ≡ b → FitsAs (slice_get declared j) (state.integers j) (state.arrays j)
        of true e = fits j (grind (arith, nat_tests))
        of false e =
            subst (λ o. FitsAs o (state.integers j) (state.arrays j))
            (sym (slice_get_past declared j (grind (arith, nat_tests)))) tt

-- ---- programs
module _ (program : Program) (input : List ℤ) (ranges : HaveRanges (declared_by program)) where
  pub start_fits : Fits (declared_by program) (at_start program.declarations input)
  start_fits =
      all_fits (declared_by program) ranges (at_start program.declarations input)
      (subst (λ n. FitsBelow (declared_by program) ranges n (at_start program.declarations input)) (omega arith)
      (all_started_below (declared_by program) ranges 0 program.declarations _ (stands_whole (declared_by program))
      (λ j lt. absurd (omega (arith, lt)))))

  pub meaning_fits : (meant : Expr → Evaluation) → ((e : Expr) → KeepsValue (declared_by program) (meant e))
      → Leads (meaning_by meant program input) (λ u after. Fits (declared_by program) after)
  meaning_fits meant keeps =
      let d = declared_by program in
      let whole = stands_whole (declared_by program) in
      statements_keep d ranges meant keeps program.statements _ _ _
      (scope_all_declared d 0 program.declarations [] whole (λ x. tt))
      (all_calls_keep d ranges meant keeps 0 program.declarations [] no_calls whole (λ x. tt) (nothing_keeps d ranges))
      start_fits
