-- Blanks and comments, a byte at a time and put together.
use Rattle.std.proofs.Common.{◌≡◌, ℕ, ◌+◌, ◌<◌, ◌==◌, List, [], ◌∷◌, ◌++◌, Bool, true, false, cond, not, length, get_or, take, Option, Some, None, ◌∙◌, ap, refl}
use Rattle.std.specs.Option.{option_and_then}
use Rattle.std.proofs.lemmas.List.{take_more}
use Rattle.source_lexer.specs.Scan.{comment_after, is_blank}

and_then_choice : (f : Bool → Option Bool) (t u : Bool) (a b c d : Option Bool) → a ≡ option_and_then f b → c ≡ option_and_then f d → cond t a (cond u c None) ≡ option_and_then f (cond t b (cond u d None))
and_then_choice f true u a b c d h k = h
and_then_choice f false true a b c d h k = k
and_then_choice f false false a b c d h k = refl

-- after a prefix of some bytes comes the rest
pub comment_after_append : (inside : Bool) (xs ys : List ℕ) → comment_after inside (xs ++ ys) ≡ option_and_then (λ within. comment_after within ys) (comment_after inside xs)
comment_after_append inside [] ys = refl
comment_after_append true (b ∷ xs) ys = comment_after_append (not (b == 10)) xs ys
comment_after_append false (b ∷ xs) ys =
    and_then_choice (λ within. comment_after within ys) (is_blank b) (b == 35) _ _ _ _ (comment_after_append false xs ys) (comment_after_append true xs ys)

-- after a prefix that leaves a comment open or none
pub comment_after_behind : (xs ys : List ℕ) (inside : Bool) → comment_after false xs ≡ Some inside → comment_after false (xs ++ ys) ≡ comment_after inside ys
comment_after_behind xs ys inside h =
    comment_after_append false xs ys ∙ ap (option_and_then (λ within. comment_after within ys)) h

-- one byte more
pub comment_after_more : (text : List ℕ) (i : ℕ) (inside : Bool) → i < length text → comment_after false (take i text) ≡ Some inside → comment_after false (take (i + 1) text) ≡ comment_after inside (get_or text i 0 ∷ [])
comment_after_more text i inside lt h =
    ap (comment_after false) (take_more text i 0 lt) ∙ comment_after_behind (take i text) (get_or text i 0 ∷ []) inside h

-- a byte inside a comment, a `#` outside, and a blank
pub comment_goes_on : (b : ℕ) (inside next : Bool) → inside ≡ true → next ≡ not (b == 10) → comment_after inside (b ∷ []) ≡ Some next
comment_goes_on b inside next h e = rw (h, e) refl

pub comment_opens : (b : ℕ) (inside next : Bool) → inside ≡ false → b ≡ 35 → next ≡ true → comment_after inside (b ∷ []) ≡ Some next
comment_opens b inside next h k e = rw (h, k, e) refl

pub blank_stays : (b : ℕ) (inside next : Bool) → inside ≡ false → is_blank b ≡ true → next ≡ inside → comment_after inside (b ∷ []) ≡ Some next
blank_stays b inside next h k e = rw (e, h) (ap (λ t. cond t (Some false) (cond (b == 35) (Some true) None)) k)
