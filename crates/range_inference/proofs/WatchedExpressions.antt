-- The values of expressions lie in their intervals, and to watch them changes nothing.
use Rattle.std.proofs.Common.{◌≡◌, ℕ, ◌<◌, ℤ, pos, negsuc, List, [], ◌∷◌, ◌++◌, length, refl, sym, ap, ◌∙◌, subst, arith, Bool, true, Option, Some, None}
use Rattle.std.specs.Prelude.{if◌then◌else◌, ◌&&◌, int_le, int_lt, slice_get, unsigned_abs}
use Rattle.std.proofs.lemmas.Int.{ints}
use Rattle.std.proofs.lemmas.Bool.Decides.{nat_tests}
use Rattle.plain_text.specs.Lookup.{lookup}
use Rattle.moduli_sets.specs.declared.kind.Kind.TheVariants.{Index}
use Rattle.name_check.specs.Names.{as_variable, as_array, faults_of_expr_node, expr_faults}
use Rattle.name_check.specs.declared.fault.NameFault.{NameFault}
use Rattle.source_tree.specs.State.{State}
use Rattle.source_tree.specs.Run.{Run, visit, returns, traps, and_then}
use Rattle.source_tree.specs.Scope.{Declared, variable, array, procedure, Scope, is_within, integer_of, range_of, range_at, has_element, element_of}
use Rattle.source_tree.specs.Expression.{Calls, Evaluation, evaluation, evaluation_of_node, operator_result}
use Rattle.source_tree.specs.Fits.{FitsAs, Fits, IsAmong, IsScopeOf, Suit, KeepFits}
use Rattle.source_tree.specs.declared.name.Name.{Name as SourceName}
use Rattle.source_tree.specs.declared.name.Range.{Range}
use Rattle.source_tree.specs.declared.expression.Operator.{Operator}
use Rattle.source_tree.specs.declared.expression.Expr.{Expr, Number, Name, Element, Neg, Binary}
use Rattle.source_tree.specs.declared.expression.Expr.TheOpen as expr
use Rattle.source_tree.proofs.FoldEquations.{fold-Number, fold-Name, fold-Element, fold-Neg, fold-Binary}
use Rattle.source_tree.proofs.Inductions.{each_expr}
use Rattle.source_tree.proofs.RunLaws.{and_then_agrees, and_then_returns, leads_weaker}
use Rattle.range_inference.specs.Demands.{Demand, node, Judged, judged_node, judged, expr_demands}
use Rattle.range_inference.specs.Interval.{Ranges, interval_of_node, interval_of, interval_of_range, interval_by, negated}
use Rattle.range_inference.specs.Watched.{Passes, Watched, watched_node, watched, watched_evaluation}
use Rattle.range_inference.specs.declared.interval.Interval.{Interval}
use Rattle.range_inference.proofs.OperatorLemmas.{Lies, within_self, within_neg, operator_lands}
use Rattle.range_inference.proofs.Passing.{AllPass, pass_first, pass_second}
use Rattle.range_inference.proofs.SameRuns.{Both, both_happens, both_then, both_if, not_empty, first_empty, second_empty}

-- ---- what a state that fits has under a name
below_length : (i len : ℤ) → (int_le (pos 0) i && int_lt i len) ≡ true → unsigned_abs i < unsigned_abs len
below_length (pos i) (pos len) h = grind (arith, ints, nat_tests)
below_length (pos i) (negsuc len) h = absurd (grind (arith, ints, nat_tests))
below_length (negsuc i) len h = absurd (grind (arith, ints, nat_tests))

module _ (declared : List Declared) where
  pub integer_within : (o : Option Declared) (line : ℕ) (state : State)
      → IsAmong declared o → as_variable o line ≡ [] → Fits declared state → is_within (integer_of o state) (range_of o) ≡ true
  integer_within (Some (variable k range)) line state t none fits =
      subst (λ o. FitsAs o (state.integers k) (state.arrays k)) t (fits k)
  integer_within (Some (array k len range)) line state t none fits = absurd (not_empty _ _ none)
  integer_within (Some (procedure k params)) line state t none fits = absurd (not_empty _ _ none)
  integer_within None line state t none fits = absurd (not_empty _ _ none)

  pub element_within : (o : Option Declared) (i : ℤ) (line : ℕ) (state : State)
      → IsAmong declared o → as_array o line ≡ [] → has_element o i ≡ true → Fits declared state
      → is_within (element_of o i state) (range_of o) ≡ true
  element_within (Some (array k len range)) i line state t none h fits =
      let f : FitsAs (Some (array k len range)) (state.integers k) (state.arrays k) =
      subst (λ o. FitsAs o (state.integers k) (state.arrays k)) t (fits k) in
      let l : length (state.arrays k) ≡ unsigned_abs len = f.0 in
      let b = below_length i len h in
      f.1 (unsigned_abs i) (pos 0) (omega arith)
  element_within (Some (variable k range)) i line state t none h fits = absurd (not_empty _ _ none)
  element_within (Some (procedure k params)) i line state t none h fits = absurd (not_empty _ _ none)
  element_within None i line state t none h fits = absurd (not_empty _ _ none)

  -- ---- a scope with the calls of its procedures, those of the watched evaluation beside them
  pub record Tied (scope : Scope) (calls' calls : Calls) : Type 0 where
    pub names : IsScopeOf declared scope
    pub keep : KeepFits declared calls
    pub agree : (k : ℕ) (params : List Range) (arguments : List ℤ) (state : State)
        → slice_get declared k ≡ Some (procedure k params)
        → Suit arguments params
        → Fits declared state
        → calls' k arguments state ≡ calls k arguments state

  module _ (test : Interval → ℤ → Bool) (elsewhere : Run ℤ) where
    -- a value in its interval, and a state that fits
    abbrev pub LiesAndFits : Interval → ℤ → State → Type 0
    LiesAndFits interval x after = Lies x interval × Fits declared after

    abbrev Holds : Evaluation → Evaluation → (Ranges → Interval) → (Scope → List NameFault) → (Ranges → List Demand) → Type 0
    Holds ev' ev interval faults demands =
        (scope : Scope) (calls' calls : Calls) (state : State)
        → Tied scope calls' calls → faults scope ≡ [] → AllPass test (demands (range_at scope)) → Fits declared state
        → Both (ev' scope calls' state) (ev scope calls state) (LiesAndFits (interval (range_at scope)))

    -- where each number of the interval passes, a run with a test behind it is the run
    tested : (interval : Interval) (r' r : Run ℤ) → Passes test interval → Both r' r (LiesAndFits interval)
        → Both (and_then r' (λ x after. if test interval x then returns x after else elsewhere)) r (LiesAndFits interval)
    tested interval r' r passes h =
        let goes : (x : ℤ) (s : State) → LiesAndFits interval x s → (if test interval x then returns x s else elsewhere) ≡ returns x s =
        λ x s p. ap (λ b. if b then returns x s else elsewhere) (passes x p.0) in (
          ap (λ q. and_then q (λ x after. if test interval x then returns x after else elsewhere)) h.0
              ∙ (and_then_agrees r (λ x after. if test interval x then returns x after else elsewhere) (λ x after. returns x after) (LiesAndFits interval) h.1 goes
              ∙ and_then_returns r),
          h.1,
        )

    -- the last demand of a node is that of the node itself
    own : (below : List Demand) (interval : Interval) (line : ℕ) → AllPass test (below ++ node interval line ∷ []) → Passes test interval
    own below interval line h = (pass_second test below (node interval line ∷ []) h).0

    -- ---- nodes
    number_holds : (value : ℤ) (line : ℕ)
        → Holds (watched_node test elsewhere (expr.Number value line)).evaluation (evaluation_of_node (expr.Number value line)) (interval_of_node (expr.Number value line)) (faults_of_expr_node (expr.Number value line)) (judged_node (expr.Number value line)).demands
    number_holds value line scope calls' calls state tied none passes fits =
        tested _ _ _ passes.0 (refl, (within_self value, fits))

    name_holds : (name : SourceName)
        → Holds (watched_node test elsewhere (expr.Name name)).evaluation (evaluation_of_node (expr.Name name)) (interval_of_node (expr.Name name)) (faults_of_expr_node (expr.Name name)) (judged_node (expr.Name name)).demands
    name_holds name scope calls' calls state tied none passes fits =
        tested _ _ _ passes.0
        (refl, (integer_within (lookup name.bytes scope) name.line state (tied.names name.bytes) none fits, fits))

    element_holds : (name : SourceName) (w : Watched) (ev : Evaluation) (j : Judged) (faults : Scope → List NameFault)
        → Holds w.evaluation ev w.interval faults j.demands
        → Holds (watched_node test elsewhere (expr.Element name w)).evaluation (evaluation_of_node (expr.Element name ev)) (interval_of_node (expr.Element name w.interval)) (faults_of_expr_node (expr.Element name faults)) (judged_node (expr.Element name j)).demands
    element_holds name w ev j faults holds scope calls' calls state tied none passes fits =
        let o = lookup name.bytes scope in
        let i = interval_of_range (range_of o) in
        let below = j.demands (range_at scope) in
        tested i _ _ (own below i name.line passes)
        (both_happens visit _ _ (LiesAndFits i)
        (both_then _ _ _ _ (LiesAndFits (w.interval (range_at scope))) (LiesAndFits i)
        (holds scope calls' calls state tied (second_empty (as_array o name.line) (faults scope) none) (pass_first test below _ passes) fits)
        (λ x after p. both_if (has_element o x) _ _ (traps Index name.line) (traps Index name.line) (LiesAndFits i)
        (λ h. (refl, (element_within o x name.line after (tied.names name.bytes) (first_empty (as_array o name.line) (faults scope) none) h p.1, p.1)))
        (λ h. (refl, tt)))))

    neg_holds : (w : Watched) (ev : Evaluation) (j : Judged) (faults : Scope → List NameFault) (line : ℕ)
        → j.interval ≡ w.interval
        → Holds w.evaluation ev w.interval faults j.demands
        → Holds (watched_node test elsewhere (expr.Neg w line)).evaluation (evaluation_of_node (expr.Neg ev line)) (interval_of_node (expr.Neg w.interval line)) (faults_of_expr_node (expr.Neg faults line)) (judged_node (expr.Neg j line)).demands
    neg_holds w ev j faults line same holds scope calls' calls state tied none passes fits =
        let i = negated (w.interval (range_at scope)) in
        let below = j.demands (range_at scope) in
        let all : AllPass test (below ++ node i line ∷ []) =
        subst (λ (v : Ranges → Interval). AllPass test (below ++ node (negated (v (range_at scope))) line ∷ [])) same passes in
        tested i _ _ (own below i line all)
        (both_happens visit _ _ (LiesAndFits i)
        (both_then _ _ _ _ (LiesAndFits (w.interval (range_at scope))) (LiesAndFits i)
        (holds scope calls' calls state tied none (pass_first test below _ passes) fits)
        (λ x after p. (refl, (within_neg x (w.interval (range_at scope)) p.0, p.1)))))

    binary_holds : (v w : Watched) (o : Operator) (ea eb : Evaluation) (ja jb : Judged) (fa fb : Scope → List NameFault) (line : ℕ)
        → ja.interval ≡ v.interval → jb.interval ≡ w.interval
        → Holds v.evaluation ea v.interval fa ja.demands
        → Holds w.evaluation eb w.interval fb jb.demands
        → Holds (watched_node test elsewhere (expr.Binary v o w line)).evaluation (evaluation_of_node (expr.Binary ea o eb line)) (interval_of_node (expr.Binary v.interval o w.interval line)) (faults_of_expr_node (expr.Binary fa o fb line)) (judged_node (expr.Binary ja o jb line)).demands
    binary_holds v w o ea eb ja jb fa fb line same_a same_b ha hb scope calls' calls state tied none passes fits =
        let r = range_at scope in
        let a = v.interval r in
        let b = w.interval r in
        let i = interval_by o a b in
        let da = ja.demands r in
        let db = jb.demands r in
        let below = da ++ db in
        let one : AllPass test (below ++ node (interval_by o a (jb.interval r)) line ∷ []) =
        subst (λ (f : Ranges → Interval). AllPass test (below ++ node (interval_by o (f r) (jb.interval r)) line ∷ [])) same_a passes in
        let all : AllPass test (below ++ node i line ∷ []) =
        subst (λ (f : Ranges → Interval). AllPass test (below ++ node (interval_by o a (f r)) line ∷ [])) same_b one in
        let parts = pass_first test below (node i line ∷ []) all in
        tested i _ _ (own below i line all)
        (both_happens visit _ _ (LiesAndFits i)
        (both_then _ _ _ _ (LiesAndFits a) (LiesAndFits i)
        (ha scope calls' calls state tied (first_empty (fa scope) (fb scope) none) (pass_first test da db parts) fits)
        (λ x after p. both_then _ _ _ _ (LiesAndFits b) (LiesAndFits i)
        (hb scope calls' calls after tied (second_empty (fa scope) (fb scope) none) (pass_second test da db parts) p.1)
        (λ y later q. (
          refl,
          leads_weaker (operator_result o x y line later) (λ z s. Lies z i × (s ≡ later)) (LiesAndFits i)
              (operator_lands o a b x y line later p.0 q.0) (λ z s l. (l.0, subst (λ t. Fits declared t) (sym l.1) q.1)),
        )))))

    -- ---- trees
    pub record Good (e : Expr) : Type 0 where
      pub interval : (watched test elsewhere e).interval ≡ interval_of e
      pub judged_interval : (judged e).interval ≡ interval_of e
      pub holds : Holds (watched test elsewhere e).evaluation (evaluation e) (watched test elsewhere e).interval (expr_faults e) (judged e).demands

    good : (e : Expr) (w : Watched) (ev : Evaluation) (i : Ranges → Interval) (faults : Scope → List NameFault) (j : Judged)
        → watched test elsewhere e ≡ w → evaluation e ≡ ev → interval_of e ≡ i → expr_faults e ≡ faults → judged e ≡ j
        → w.interval ≡ i → j.interval ≡ i → Holds w.evaluation ev w.interval faults j.demands → Good e
    good e w ev i faults j is_w is_ev is_i is_faults is_j same same_j holds = record {
      interval = ap (λ (v : Watched). v.interval) is_w ∙ (same ∙ sym is_i);
      judged_interval = ap (λ (v : Judged). v.interval) is_j ∙ (same_j ∙ sym is_i);
      holds =
          subst (λ (v : Watched). Holds v.evaluation (evaluation e) v.interval (expr_faults e) (judged e).demands) (sym is_w)
          (subst (λ ev. Holds w.evaluation ev w.interval (expr_faults e) (judged e).demands) (sym is_ev)
          (subst (λ faults. Holds w.evaluation ev w.interval faults (judged e).demands) (sym is_faults)
          (subst (λ (k : Judged). Holds w.evaluation ev w.interval faults k.demands) (sym is_j) holds)));
    }

    all_good : (e : Expr) → Good e
    all_good =
        each_expr Good
        (λ value line. good (Number value line) _ _ _ _ _ (fold-Number (watched_node test elsewhere) value line) (fold-Number evaluation_of_node value line) (fold-Number interval_of_node value line) (fold-Number faults_of_expr_node value line) (fold-Number judged_node value line) refl refl (number_holds value line))
        (λ name. good (Name name) _ _ _ _ _ (fold-Name (watched_node test elsewhere) name) (fold-Name evaluation_of_node name) (fold-Name interval_of_node name) (fold-Name faults_of_expr_node name) (fold-Name judged_node name) refl refl (name_holds name))
        (λ name index g. good (Element name index) _ _ _ _ _ (fold-Element (watched_node test elsewhere) name index) (fold-Element evaluation_of_node name index) (fold-Element interval_of_node name index) (fold-Element faults_of_expr_node name index) (fold-Element judged_node name index) refl refl
        (element_holds name (watched test elsewhere index) (evaluation index) (judged index) (expr_faults index) g.holds))
        (λ operand line g. good (Neg operand line) _ _ _ _ _ (fold-Neg (watched_node test elsewhere) operand line) (fold-Neg evaluation_of_node operand line) (fold-Neg interval_of_node operand line) (fold-Neg faults_of_expr_node operand line) (fold-Neg judged_node operand line)
        (ap (λ i. interval_of_node (expr.Neg i line)) g.interval) (ap (λ i. interval_of_node (expr.Neg i line)) g.judged_interval)
        (neg_holds (watched test elsewhere operand) (evaluation operand) (judged operand) (expr_faults operand) line (g.judged_interval ∙ sym g.interval) g.holds))
        (λ left o right line g h. good (Binary left o right line) _ _ _ _ _ (fold-Binary (watched_node test elsewhere) left o right line) (fold-Binary evaluation_of_node left o right line) (fold-Binary interval_of_node left o right line) (fold-Binary faults_of_expr_node left o right line) (fold-Binary judged_node left o right line)
        (ap (λ i. interval_of_node (expr.Binary i o (watched test elsewhere right).interval line)) g.interval ∙ ap (λ i. interval_of_node (expr.Binary (interval_of left) o i line)) h.interval)
        (ap (λ i. interval_of_node (expr.Binary i o (judged right).interval line)) g.judged_interval ∙ ap (λ i. interval_of_node (expr.Binary (interval_of left) o i line)) h.judged_interval)
        (binary_holds (watched test elsewhere left) (watched test elsewhere right) o (evaluation left) (evaluation right) (judged left) (judged right) (expr_faults left) (expr_faults right) line
        (g.judged_interval ∙ sym g.interval) (h.judged_interval ∙ sym h.interval) g.holds h.holds))

    -- the value of an expression lies in its interval, the state fits as before, and to watch it changes nothing
    pub value_holds : (e : Expr) (scope : Scope) (calls' calls : Calls) (state : State)
        → Tied scope calls' calls → expr_faults e scope ≡ [] → AllPass test (expr_demands e (range_at scope)) → Fits declared state
        → Both (watched_evaluation test elsewhere e scope calls' state) (evaluation e scope calls state) (LiesAndFits (interval_of e (range_at scope)))
    value_holds e scope calls' calls state tied none passes fits =
        let g = all_good e in
        subst (λ i. Both (watched_evaluation test elsewhere e scope calls' state) (evaluation e scope calls state) (LiesAndFits (i (range_at scope)))) g.interval
        (g.holds scope calls' calls state tied none passes fits)
