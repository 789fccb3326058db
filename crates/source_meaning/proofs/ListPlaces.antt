-- Lists by place, with what stands past their ends.
use Rattle.std.proofs.Common.{◌≡◌, ℕ, zero, suc, ◌-◌, ◌≤◌, ℤ, pos, List, [], ◌∷◌, length, take, drop, get_or, Some, None, refl, sym, ap, ◌∙◌, arith}
use Rattle.std.specs.Prelude.{slice_get, slice_index_or}

pub index_none : {A : Type 0} (xs : List A) (i : ℕ) (d : A) → slice_get xs i ≡ None → d ≡ slice_index_or xs i d
index_none [] i d h = refl
index_none (x ∷ xs) zero d h = absurd cc
index_none (x ∷ xs) (suc i) d h = index_none xs i d h

pub index_some : {A : Type 0} (xs : List A) (i : ℕ) (d x : A) → slice_get xs i ≡ Some x → x ≡ slice_index_or xs i d
index_some [] i d x h = absurd cc
index_some (y ∷ xs) zero d x h = cc
index_some (y ∷ xs) (suc i) d x h = index_some xs i d x h

take_all : {A : Type 0} (l : List A) → take (length l) l ≡ l
take_all [] = refl
take_all (x ∷ l) = ap (λ k. x ∷ k) (take_all l)

-- the first, and the rest as a slice gives it
pub front_is : (l : List ℤ) → 1 ≤ length l → l ≡ get_or l 0 (pos 0) ∷ take (length l - 1) (drop 1 l)
front_is [] h = absurd (omega arith)
front_is (x ∷ l) h =
    let n : length l ≡ length (x ∷ l) - 1 = omega arith in
    ap (λ k. x ∷ k) (sym (take_all l) ∙ ap (λ m. take m l) n)
