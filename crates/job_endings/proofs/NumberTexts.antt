-- Numbers one space apart, one number after another.
use Rattle.std.proofs.Common.{◌≡◌, ℕ, zero, suc, ◌+◌, ◌<◌, List, [], ◌∷◌, ◌++◌, length, get_or, take, map, refl, sym, ap, ◌∙◌, append_assoc, subst, arith}
use Rattle.std.specs.Fmt.{decimal}
use Rattle.std.specs.List.{join_with_byte}
use Rattle.std.proofs.lemmas.List.{map_more}
use Rattle.job_endings.specs.Numbers.{numbers_text}

-- one piece more after others
join-push : (c : ℕ) (x : List ℕ) (xs : List (List ℕ)) (y : List ℕ)
    → join_with_byte c (x ∷ (xs ++ y ∷ [])) ≡ join_with_byte c (x ∷ xs) ++ (c ∷ y)
join-push c x [] y = refl
join-push c x (z ∷ zs) y =
    ap (λ t. x ++ (c ∷ t)) (join-push c z zs y) ∙ sym (append_assoc x (c ∷ join_with_byte c (z ∷ zs)) (c ∷ y))

-- the first number stands alone, and each other one after a space
pub text_first : (xs : List ℕ) → 0 < length xs → numbers_text (take (0 + 1) xs) ≡ decimal (get_or xs 0 0)
text_first [] h = absurd (omega arith)
text_first (x ∷ xs) h = refl

pub text_more : (xs : List ℕ) (n : ℕ) → n < length xs → 0 < n
    → numbers_text (take (n + 1) xs) ≡ numbers_text (take n xs) ++ (32 ∷ decimal (get_or xs n 0))
text_more [] n h positive = absurd (omega arith)
text_more (x ∷ xs) zero h positive = absurd (omega arith)
text_more (x ∷ xs) (suc n) h positive =
    ap (join_with_byte 32) (map_more decimal (x ∷ xs) (suc n) 0 h)
    ∙ join-push 32 (decimal x) (map decimal (take n xs)) (decimal (get_or xs n 0))

-- one number more in a line that begins with a word: after a space or, where it is the first, without
pub line_more : (word before spaced after xs : List ℕ) (n : ℕ) → n < length xs → 0 < n → before ≡ word ++ numbers_text (take n xs)
    → spaced ≡ before ++ 32 ∷ [] → after ≡ spaced ++ decimal (get_or xs n 0) → after ≡ word ++ numbers_text (take (n + 1) xs)
line_more word before spaced after xs n h positive e space put =
    put
    ∙ ap (λ s. s ++ decimal (get_or xs n 0)) (space ∙ ap (λ b. b ++ 32 ∷ []) e)
    ∙ append_assoc (word ++ numbers_text (take n xs)) (32 ∷ []) (decimal (get_or xs n 0))
    ∙ append_assoc word (numbers_text (take n xs)) (32 ∷ decimal (get_or xs n 0))
    ∙ ap (λ t. word ++ t) (sym (text_more xs n h positive))

pub line_first : (word before after xs : List ℕ) (n : ℕ) → n < length xs → n ≡ 0 → before ≡ word ++ numbers_text (take n xs)
    → after ≡ before ++ decimal (get_or xs n 0) → after ≡ word ++ numbers_text (take (n + 1) xs)
line_first word before after xs n h is e put =
    let P : ℕ → Type 0 = λ k. before ≡ word ++ numbers_text (take k xs) in
    let start = subst P is e in
    let Q : ℕ → Type 0 = λ k. word ++ decimal (get_or xs k 0) ≡ word ++ numbers_text (take (k + 1) xs) in
    put
    ∙ ap (λ b. b ++ decimal (get_or xs n 0)) start
    ∙ append_assoc word [] (decimal (get_or xs n 0))
    ∙ subst Q (sym is) (ap (λ t. word ++ t) (sym (text_first xs (omega arith))))
