-- A loop over a list, seen as what is left of it.
use Rattle.std.proofs.Common.{◌≡◌, ◌+◌, ◌<◌, suc, ℕ, List, ◌∷◌, length, map, drop, get_or, sym, ap, ◌∙◌, drop-cons, add-one}

-- what is left is the element that the loop is at, and what is left after it
pub map-drop-step : {A B : Type 0} (f : A → B) (xs ys : List A) (i : ℕ) (x : A) → ys ≡ xs → i < length ys → x ≡ get_or ys i x → map f (drop i xs) ≡ f x ∷ map f (drop (i + 1) xs)
map-drop-step {A = A} f xs ys i x same below at =
    let next : drop i xs ≡ x ∷ drop (i + 1) xs =
    ap (drop i) (sym same)
    ∙ drop-cons ys i x below
    ∙ ap (λ (y : A). y ∷ drop (suc i) ys) (sym at)
    ∙ ap (λ (zs : List A). x ∷ drop (suc i) zs) same
    ∙ ap (λ n. x ∷ drop n xs) (sym (add-one i)) in
    ap (map f) next
