-- Arguments are resolved one after another: what is left of them leads to what they all lead to.
use Rattle.std.proofs.Common.{◌≡◌, ℕ, zero, suc, ◌+◌, ◌<◌, ◌≤◌, List, [], ◌∷◌, ◌++◌, length, drop, get_or, Some, None, refl, sym, ap, ◌∙◌, arith, append_assoc, append-nil, length-append}
use Rattle.std.specs.Prelude.{slice_get}
use Rattle.std.proofs.lemmas.List.{drop_more, drop_all}
use Rattle.source_tree.specs.Scope.{Scope}
use Rattle.source_tree.specs.declared.expression.Expr.{Expr}
use Rattle.source_tree.specs.declared.name.Range.{Range}
use Rattle.resolved_tree.specs.Resolution.{resolved_expr, resolved_arguments}
use Rattle.resolved_tree.specs.declared.tree.Argument.{Argument}
use Rattle.resolved_tree.specs.declared.tree.Value.{Value}

drop_there : {A : Type 0} (xs : List A) (i : ℕ) (x : A) → slice_get xs i ≡ Some x → drop i xs ≡ x ∷ drop (i + 1) xs
drop_there [] i x is = cc
drop_there (y ∷ xs) zero x is = let same : y ≡ x = cc in ap (λ z. z ∷ xs) same
drop_there (y ∷ xs) (suc i) x is = let e : suc (i + 1) ≡ suc i + 1 = omega arith in drop_there xs i x is ∙ ap (λ n. x ∷ drop n (y ∷ xs)) e

drop_past : {A : Type 0} (xs : List A) (i : ℕ) → slice_get xs i ≡ None → drop i xs ≡ []
drop_past [] zero is = refl
drop_past [] (suc i) is = refl
drop_past (y ∷ xs) zero is = cc
drop_past (y ∷ xs) (suc i) is = drop_past xs i is

none_left : (es : List Expr) (scope : Scope) → resolved_arguments es [] scope ≡ []
none_left [] scope = refl
none_left (e ∷ es) scope = refl

-- those before number i are resolved
pub record HasResolved (es : List Expr) (params : List Range) (scope : Scope) (i : ℕ) (found : List Argument) : Type 0 where
  pub counted : length found ≡ i
  pub left : resolved_arguments es params scope ≡ found ++ resolved_arguments (drop i es) (drop i params) scope

pub resolved_first : (es : List Expr) (params : List Range) (scope : Scope) → HasResolved es params scope 0 []
resolved_first es params scope = record { counted = refl; left = refl }

module _ (es : List Expr) (params : List Range) (scope : Scope) (i : ℕ) (found : List Argument) (resolved : HasResolved es params scope i found) where
  pub resolved_next : (e : Expr) (range : Range) (v : Value) (next : List Argument) → i < length es → e ≡ get_or es i e
      → slice_get params (length found) ≡ Some range → v ≡ resolved_expr e scope → next ≡ found ++ record { value = v; range = range } ∷ []
      → HasResolved es params scope (i + 1) next
  resolved_next e range v next within is there same put =
      let own : drop i es ≡ e ∷ drop (i + 1) es = drop_more es i e within ∙ ap (λ x. x ∷ drop (i + 1) es) (sym is) in
      let its : drop i params ≡ range ∷ drop (i + 1) params = drop_there params i range (ap (slice_get params) (sym resolved.counted) ∙ there) in
      let rest = resolved_arguments (drop (i + 1) es) (drop (i + 1) params) scope in
      let argument : Argument = record { value = v; range = range } in
      record {
        counted = ap length put ∙ length-append found (argument ∷ []) ∙ ap (λ n. n + 1) resolved.counted;
        left =
            resolved.left ∙ (λ j. found ++ resolved_arguments (own j) (its j) scope)
            ∙ (λ j. found ++ (record { value = sym same j; range = range } ∷ rest))
            ∙ sym (append_assoc found (argument ∷ []) rest)
            ∙ ap (λ l. l ++ rest) (sym put);
      }

  pub resolved_all : length es ≤ i → found ≡ resolved_arguments es params scope
  resolved_all end =
      sym (resolved.left ∙ ap (λ l. found ++ resolved_arguments l (drop i params) scope) (drop_all i es end) ∙ append-nil found)

  -- no parameter is left
  pub resolved_end : slice_get params (length found) ≡ None → found ≡ resolved_arguments es params scope
  resolved_end past =
      sym (resolved.left
      ∙ ap (λ l. found ++ resolved_arguments (drop i es) l scope) (drop_past params i (ap (slice_get params) (sym resolved.counted) ∙ past))
      ∙ ap (λ l. found ++ l) (none_left (drop i es) scope) ∙ append-nil found)
