-- The numbers of an input, word by word.
use Rattle.std.proofs.Common.{◌≡◌, ℕ, suc, ℤ, List, [], ◌∷◌, ◌++◌, map, All, inl, inr, refl, sym, ap, ◌∙◌, subst, arith}
use Rattle.std.proofs.lemmas.List.{append-nil, append_assoc, map-append}
use Rattle.std.proofs.lemmas.List.Elements.{All-append, All-cons, All-head, All-nil}
use Rattle.plain_text.specs.Digits.{IsInteger}
use Rattle.plain_text.specs.Words.{WordAt}
use Rattle.number_text.specs.Input.{AreNumbers, IsFirstOther, held_integer}

-- the words up to the rest are whole numbers, and these are their integers
pub record AreNumbersUpTo (words rest : List WordAt) (numbers : List ℤ) : Type 0 where
  pub done : List WordAt
  pub parts : words ≡ done ++ rest
  pub numbers_done : AreNumbers done numbers

pub none_done : (words : List WordAt) → AreNumbersUpTo words words []
none_done words = record { done = []; parts = refl; numbers_done = record { all = All-nil (λ w. IsInteger w.bytes); values = refl } }

-- one more
pub one_more : (words rest : List WordAt) (word : WordAt) (numbers longer : List ℤ) (x : ℤ) → AreNumbersUpTo words (word ∷ rest) numbers → IsInteger word.bytes → x ≡ held_integer word → longer ≡ numbers ++ x ∷ [] → AreNumbersUpTo words rest longer
one_more words rest word numbers longer x up_to is value pushed = record {
  done = up_to.done ++ word ∷ [];
  parts = up_to.parts ∙ sym (append_assoc up_to.done (word ∷ []) rest);
  numbers_done = record {
    all = All-append (λ w. IsInteger w.bytes) up_to.done (word ∷ []) up_to.numbers_done.all (All-cons (λ w. IsInteger w.bytes) word [] is (All-nil (λ w. IsInteger w.bytes)));
    values =
        pushed
        ∙ ap (λ front. front ++ x ∷ []) up_to.numbers_done.values
        ∙ ap (λ z. map held_integer up_to.done ++ z ∷ []) value
        ∙ sym (map-append held_integer up_to.done (word ∷ []));
  };
}

-- all of them
pub all_done : (words : List WordAt) (numbers : List ℤ) → AreNumbersUpTo words [] numbers → AreNumbers words numbers
all_done words numbers up_to =
    let same : up_to.done ≡ words = sym (up_to.parts ∙ append-nil up_to.done) in
    subst (λ ws. AreNumbers ws numbers) same up_to.numbers_done

-- a word that is none is the first
first_after : (done rest : List WordAt) (word : WordAt) → All (λ w. IsInteger w.bytes) done → (IsInteger word.bytes → ⊥) → IsFirstOther (done ++ word ∷ rest) word.place
first_after [] rest word all other = inr (other, refl)
first_after (w ∷ done) rest word all other =
    inl (All-head (λ v. IsInteger v.bytes) w done all, first_after done rest word (λ k d h. all (suc k) d (omega arith)) other)

pub stops_here : (words rest : List WordAt) (word : WordAt) (numbers : List ℤ) → AreNumbersUpTo words (word ∷ rest) numbers → (IsInteger word.bytes → ⊥) → IsFirstOther words word.place
stops_here words rest word numbers up_to other =
    subst (λ ws. IsFirstOther ws word.place) (sym up_to.parts) (first_after up_to.done rest word up_to.numbers_done.all other)

-- ---- one reading
pub same_numbers : (words : List WordAt) (xs ys : List ℤ) → AreNumbers words xs → AreNumbers words ys → xs ≡ ys
same_numbers words xs ys are_xs are_ys = are_xs.values ∙ sym are_ys.values

pub same_place : (words : List WordAt) (m n : ℕ) → IsFirstOther words m → IsFirstOther words n → m ≡ n
same_place [] m n at_m at_n = absurd at_m
same_place (word ∷ words) m n (inl later_m) (inl later_n) = same_place words m n later_m.1 later_n.1
same_place (word ∷ words) m n (inl later_m) (inr here_n) = absurd (here_n.0 later_m.0)
same_place (word ∷ words) m n (inr here_m) (inl later_n) = absurd (here_m.0 later_n.0)
same_place (word ∷ words) m n (inr here_m) (inr here_n) = here_m.1 ∙ sym here_n.1

pub numbers_or_place : (words : List WordAt) (n : ℕ) → All (λ w. IsInteger w.bytes) words → IsFirstOther words n → ⊥
numbers_or_place [] n all first = first
numbers_or_place (word ∷ words) n all (inl later) = numbers_or_place words n (λ k d h. all (suc k) d (omega arith)) later.1
numbers_or_place (word ∷ words) n all (inr here) = here.0 (All-head (λ w. IsInteger w.bytes) word words all)
