-- Calls: the latest procedure of a number, with those before it.
use Rattle.std.proofs.Common.{◌≡◌, ℕ, ◌+◌, ◌<◌, true, false, List, [], ◌∷◌, ◌++◌, length, take, nat_eq, refl, sym, ap, ◌∙◌, arith, get_or}
use Rattle.std.specs.Prelude.{if◌then◌else◌}
use Rattle.std.proofs.lemmas.List.{take_more}
use Rattle.std.proofs.lemmas.Bool.Decides.{nat_tests}
use Rattle.source_tree.specs.State.{with_at}
use Rattle.source_tree.specs.Expression.{Calls}
use Rattle.source_tree.specs.Meaning.{no_calls}
use Rattle.resolved_tree.specs.Meaning.{call_of, with_procedures, calls_of}
use Rattle.resolved_tree.specs.declared.tree.Procedure.{Procedure}

module _ (size : ℕ) where
  with_procedures-append : (a b : List Procedure) (calls : Calls) → with_procedures size (a ++ b) calls ≡ with_procedures size b (with_procedures size a calls)
  with_procedures-append [] b calls = refl
  with_procedures-append (p ∷ a) b calls = with_procedures-append a b (with_at calls p.number (call_of size p calls))

  -- one procedure more
  calls-last : (a : List Procedure) (p : Procedure) (k : ℕ) → calls_of size (a ++ p ∷ []) k ≡ if nat_eq k p.number then call_of size p (calls_of size a) else calls_of size a k
  calls-last a p k = ap (λ (c : Calls). c k) (with_procedures-append a (p ∷ []) no_calls)

  taken : (l : List Procedure) (i : ℕ) (p : Procedure) → i < length l → p ≡ get_or l i p → take (i + 1) l ≡ take i l ++ p ∷ []
  taken l i p h e = take_more l i p h ∙ ap (λ q. take i l ++ q ∷ []) (sym e)

  pub call_found : (l : List Procedure) (i : ℕ) (p : Procedure) (k : ℕ) → i < length l → p ≡ get_or l i p → p.number ≡ k
      → calls_of size l k ≡ calls_of size (take (i + 1) l) k → calls_of size l k ≡ call_of size p (calls_of size (take i l))
  call_found l i p k h e n before =
      let b : true ≡ nat_eq k p.number = grind (arith, nat_tests) in
      before ∙ ap (λ t. calls_of size t k) (taken l i p h e) ∙ calls-last (take i l) p k
      ∙ ap (λ c. if c then call_of size p (calls_of size (take i l)) else calls_of size (take i l) k) (sym b)

  pub call_passed : (l : List Procedure) (i : ℕ) (p : Procedure) (k : ℕ) → i < length l → p ≡ get_or l i p → (p.number ≡ k → ⊥)
      → calls_of size l k ≡ calls_of size (take (i + 1) l) k → calls_of size l k ≡ calls_of size (take i l) k
  call_passed l i p k h e n before =
      let b : false ≡ nat_eq k p.number = grind (arith, nat_tests) in
      before ∙ ap (λ t. calls_of size t k) (taken l i p h e) ∙ calls-last (take i l) p k
      ∙ ap (λ c. if c then call_of size p (calls_of size (take i l)) else calls_of size (take i l) k) (sym b)
