-- Runs side by side: one is the other, and P holds of what they return.
use Rattle.std.proofs.Common.{◌≡◌, List, [], ◌∷◌, ◌++◌, refl, ap, ◌∙◌, Bool, true, false}
use Rattle.std.specs.Prelude.{if◌then◌else◌}
use Rattle.source_tree.specs.State.{State}
use Rattle.source_tree.specs.Run.{Run, Event, happens, and_then, Leads}
use Rattle.source_tree.proofs.RunLaws.{leads_and_then, and_then_agrees}

abbrev pub Both : {A : Type 0} → Run A → Run A → (A → State → Type 0) → Type 0
Both run' run P = (run' ≡ run) × Leads run P

pub both_happens : {A : Type 0} (event : Event) (r' r : Run A) (P : A → State → Type 0)
    → Both r' r P → Both (happens event r') (happens event r) P
both_happens event r' r P h = (ap (λ q. happens event q) h.0, h.1)

pub both_then : {A B : Type 0} (r' r : Run A) (f' f : A → State → Run B) (P : A → State → Type 0) (Q : B → State → Type 0)
    → Both r' r P → ((x : A) (s : State) → P x s → Both (f' x s) (f x s) Q) → Both (and_then r' f') (and_then r f) Q
both_then r' r f' f P Q h k = (
  ap (λ q. and_then q f') h.0 ∙ and_then_agrees r f' f P h.1 (λ x s p. (k x s p).0),
  leads_and_then r f P Q h.1 (λ x s p. (k x s p).1),
)

pub both_if : {A : Type 0} (b : Bool) (x' x y' y : Run A) (P : A → State → Type 0)
    → (b ≡ true → Both x' x P) → (b ≡ false → Both y' y P) → Both (if b then x' else y') (if b then x else y) P
both_if true x' x y' y P h k = h refl
both_if false x' x y' y P h k = k refl

-- ---- lists without an element
pub not_empty : {A : Type 0} (x : A) (xs : List A) → x ∷ xs ≡ [] → ⊥
not_empty x xs e = cc

pub first_empty : {A : Type 0} (xs ys : List A) → xs ++ ys ≡ [] → xs ≡ []
first_empty [] ys e = refl
first_empty (x ∷ xs) ys e = absurd (not_empty x (xs ++ ys) e)

pub second_empty : {A : Type 0} (xs ys : List A) → xs ++ ys ≡ [] → ys ≡ []
second_empty [] ys e = e
second_empty (x ∷ xs) ys e = absurd (not_empty x (xs ++ ys) e)
