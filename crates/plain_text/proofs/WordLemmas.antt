-- Words from a place on: what parts them is passed over, and so is a word.
use Rattle.std.proofs.Common.{◌≡◌, ℕ, suc, ◌+◌, ◌-◌, ◌<◌, ◌≤◌, ◌&&◌, Bool, true, false, cond, if◌then◌else◌, not, List, [], ◌∷◌, length, drop, take, length-drop, refl, sym, ap, ◌∙◌, subst, arith}
use Rattle.std.specs.List.{prefix_len, slice_range}
use Rattle.std.proofs.lemmas.List.{drop-drop}
use Rattle.std.proofs.Math.Seq.{take-length}
use Rattle.plain_text.specs.Words.{WordAt, is_separator, word_prefix, words_from}

abbrev word_at : List ℕ → ℕ → List ℕ → WordAt
word_at separators place bytes = record { place = place; bytes = word_prefix separators bytes }

-- a byte that parts words, and one that parts none, after a byte of a word and else
words_from-separator : (separators : List ℕ) (within : Bool) (place b : ℕ) (bytes : List ℕ) → is_separator separators b ≡ true → words_from separators within place (b ∷ bytes) ≡ words_from separators false (place + 1) bytes
words_from-separator separators within place b bytes h =
    ap (λ t. if not t && not within then word_at separators place (b ∷ bytes) ∷ words_from separators (not t) (place + 1) bytes else words_from separators (not t) (place + 1) bytes) h

words_from-within : (separators : List ℕ) (place b : ℕ) (bytes : List ℕ) → is_separator separators b ≡ false → words_from separators true place (b ∷ bytes) ≡ words_from separators true (place + 1) bytes
words_from-within separators place b bytes h =
    ap (λ t. if not t && false then word_at separators place (b ∷ bytes) ∷ words_from separators (not t) (place + 1) bytes else words_from separators (not t) (place + 1) bytes) h

words_from-begins : (separators : List ℕ) (place b : ℕ) (bytes : List ℕ) → is_separator separators b ≡ false
    → words_from separators false place (b ∷ bytes) ≡ record { place = place; bytes = word_prefix separators (b ∷ bytes) } ∷ words_from separators true (place + 1) bytes
words_from-begins separators place b bytes h =
    ap (λ t. if not t && true then word_at separators place (b ∷ bytes) ∷ words_from separators (not t) (place + 1) bytes else words_from separators (not t) (place + 1) bytes) h

-- how many bytes at the start of bytes part words, and how many part none
abbrev pub separators_before : List ℕ → List ℕ → ℕ
separators_before separators bytes = prefix_len (is_separator separators) bytes

abbrev pub word_bytes : List ℕ → List ℕ → ℕ
word_bytes separators bytes = prefix_len (λ b. not (is_separator separators b)) bytes

-- within a word, the rest of it is passed over
pass_step : (separators : List ℕ) (place b : ℕ) (bytes : List ℕ) → words_from separators true (place + 1) bytes ≡ words_from separators false (place + 1 + word_bytes separators bytes) (drop (word_bytes separators bytes) bytes)
    → (t : Bool) → is_separator separators b ≡ t → words_from separators true place (b ∷ bytes) ≡ words_from separators false (place + word_bytes separators (b ∷ bytes)) (drop (word_bytes separators (b ∷ bytes)) (b ∷ bytes))
pass_step separators place b bytes rest true h =
    words_from-separator separators true place b bytes h
    ∙ sym (words_from-separator separators false place b bytes h)
    ∙ ap (λ n. words_from separators false n (b ∷ bytes)) (omega arith)
    ∙ sym (ap (λ n. words_from separators false (place + n) (drop n (b ∷ bytes))) (ap (λ t. cond (not t) (1 + word_bytes separators bytes) 0) h))
pass_step separators place b bytes rest false h =
    let n = word_bytes separators bytes in
    let one_more : word_bytes separators (b ∷ bytes) ≡ suc n = ap (λ t. cond (not t) (1 + n) 0) h ∙ omega arith in
    let further : place + 1 + n ≡ place + suc n = omega arith in
    words_from-within separators place b bytes h
    ∙ rest
    ∙ ap (λ k. words_from separators false k (drop n bytes)) further
    ∙ sym (ap (λ k. words_from separators false (place + k) (drop k (b ∷ bytes))) one_more)

words_from-pass : (separators : List ℕ) (place : ℕ) (bytes : List ℕ) → words_from separators true place bytes ≡ words_from separators false (place + word_bytes separators bytes) (drop (word_bytes separators bytes) bytes)
words_from-pass separators place [] = refl
words_from-pass separators place (b ∷ bytes) = pass_step separators place b bytes (words_from-pass separators (place + 1) bytes) (is_separator separators b) refl

-- ---- the first word
-- after n bytes that part words stands the first word of these bytes, with the others after it
pub record BeginsAfter (separators : List ℕ) (place : ℕ) (bytes : List ℕ) (n : ℕ) : Type 0 where
  pub some : 0 < word_bytes separators (drop n bytes)
  pub words : words_from separators false place bytes
      ≡ record { place = place + n; bytes = word_prefix separators (drop n bytes) }
      ∷ words_from separators false (place + n + word_bytes separators (drop n bytes)) (drop (word_bytes separators (drop n bytes)) (drop n bytes))

begins-here : (separators : List ℕ) (place b : ℕ) (bytes : List ℕ) → is_separator separators b ≡ false → BeginsAfter separators place (b ∷ bytes) 0
begins-here separators place b bytes h =
    let one_more : word_bytes separators (b ∷ bytes) ≡ 1 + word_bytes separators bytes = ap (λ t. cond (not t) (1 + word_bytes separators bytes) 0) h in
    let same : place ≡ place + 0 = omega arith in
    record {
      some = omega (arith, one_more);
      words =
          words_from-begins separators place b bytes h
          ∙ ap (λ words. word_at separators place (b ∷ bytes) ∷ words) (sym (words_from-within separators place b bytes h) ∙ words_from-pass separators place (b ∷ bytes))
          ∙ ap (λ n. word_at separators n (b ∷ bytes) ∷ words_from separators false (n + word_bytes separators (b ∷ bytes)) (drop (word_bytes separators (b ∷ bytes)) (b ∷ bytes))) same;
    }

begins-later : (separators : List ℕ) (place b : ℕ) (bytes : List ℕ) (n : ℕ) → is_separator separators b ≡ true → BeginsAfter separators (place + 1) bytes n → BeginsAfter separators place (b ∷ bytes) (suc n)
begins-later separators place b bytes n h rest =
    let further : place + 1 + n ≡ place + suc n = omega arith in
    record {
      some = rest.some;
      words =
          words_from-separator separators false place b bytes h
          ∙ rest.words
          ∙ ap (λ k. word_at separators k (drop n bytes) ∷ words_from separators false (k + word_bytes separators (drop n bytes)) (drop (word_bytes separators (drop n bytes)) (drop n bytes))) further;
    }

begins_step : (separators : List ℕ) (place b : ℕ) (bytes : List ℕ) → (separators_before separators bytes < length bytes → BeginsAfter separators (place + 1) bytes (separators_before separators bytes))
    → (t : Bool) → is_separator separators b ≡ t → separators_before separators (b ∷ bytes) < length (b ∷ bytes) → BeginsAfter separators place (b ∷ bytes) (separators_before separators (b ∷ bytes))
begins_step separators place b bytes rest true h some =
    let one_more : separators_before separators (b ∷ bytes) ≡ suc (separators_before separators bytes) = ap (λ t. cond t (1 + separators_before separators bytes) 0) h ∙ omega arith in
    subst (BeginsAfter separators place (b ∷ bytes)) (sym one_more) (begins-later separators place b bytes (separators_before separators bytes) h (rest (omega (arith, one_more))))
begins_step separators place b bytes rest false h some =
    let none : separators_before separators (b ∷ bytes) ≡ 0 = ap (λ t. cond t (1 + separators_before separators bytes) 0) h in
    subst (BeginsAfter separators place (b ∷ bytes)) (sym none) (begins-here separators place b bytes h)

words_from-first : (separators : List ℕ) (place : ℕ) (bytes : List ℕ) → separators_before separators bytes < length bytes → BeginsAfter separators place bytes (separators_before separators bytes)
words_from-first separators place [] some = absurd (omega arith)
words_from-first separators place (b ∷ bytes) some =
    begins_step separators place b bytes (words_from-first separators (place + 1) bytes) (is_separator separators b) refl some

-- where all bytes part words there is none
none_step : (separators : List ℕ) (place b : ℕ) (bytes : List ℕ) → (separators_before separators bytes ≡ length bytes → words_from separators false (place + 1) bytes ≡ [])
    → (t : Bool) → is_separator separators b ≡ t → separators_before separators (b ∷ bytes) ≡ length (b ∷ bytes) → words_from separators false place (b ∷ bytes) ≡ []
none_step separators place b bytes rest true h all =
    let one_more : separators_before separators (b ∷ bytes) ≡ 1 + separators_before separators bytes = ap (λ t. cond t (1 + separators_before separators bytes) 0) h in
    words_from-separator separators false place b bytes h ∙ rest (omega (arith, one_more))
none_step separators place b bytes rest false h all =
    let none : separators_before separators (b ∷ bytes) ≡ 0 = ap (λ t. cond t (1 + separators_before separators bytes) 0) h in
    absurd (omega (arith, none))

words_from-none : (separators : List ℕ) (place : ℕ) (bytes : List ℕ) → separators_before separators bytes ≡ length bytes → words_from separators false place bytes ≡ []
words_from-none separators place [] all = refl
words_from-none separators place (b ∷ bytes) all =
    none_step separators place b bytes (words_from-none separators (place + 1) bytes) (is_separator separators b) refl all

-- ---- at a place of a text
pub rest_of : (text : List ℕ) (place : ℕ) → take (length text - place) (drop place text) ≡ drop place text
rest_of text place = ap (λ n. take n (drop place text)) (sym (length-drop place text)) ∙ take-length (drop place text)

pub words_at-none : (separators text : List ℕ) (place : ℕ) → place ≤ length text → place + separators_before separators (drop place text) ≡ length text → words_from separators false place (drop place text) ≡ []
words_at-none separators text place within all = words_from-none separators place (drop place text) (omega (arith, length-drop place text))

-- the first word goes from `start` up to `end`
pub words_at-first : (separators text : List ℕ) (place start end : ℕ) → start ≡ place + separators_before separators (drop place text) → start < length text → end ≡ start + word_bytes separators (drop start text)
    → (words_from separators false place (drop place text) ≡ record { place = start; bytes = slice_range text start end } ∷ words_from separators false end (drop end text)) × (start < end)
words_at-first separators text place start end start_is some end_is =
    let n = separators_before separators (drop place text) in
    let first = words_from-first separators place (drop place text) (omega (arith, length-drop place text, start_is)) in
    let there : drop n (drop place text) ≡ drop start text = drop-drop n place text ∙ ap (λ k. drop k text) (sym start_is) in
    let len = word_bytes separators (drop start text) in
    let some_bytes : 0 < len = subst (λ bytes. 0 < word_bytes separators bytes) there first.some in
    let at_start = subst (λ k. words_from separators false place (drop place text) ≡ word_at separators k (drop start text) ∷ words_from separators false (k + len) (drop len (drop start text))) (sym start_is)
    (subst (λ bytes. words_from separators false place (drop place text) ≡ word_at separators (place + n) bytes ∷ words_from separators false (place + n + word_bytes separators bytes) (drop (word_bytes separators bytes) bytes)) there first.words) in (
      at_start
          ∙ ap (λ k. record { place = start; bytes = take k (drop start text) } ∷ words_from separators false (start + len) (drop len (drop start text))) (omega (arith, end_is))
          ∙ ap (λ bytes. record { place = start; bytes = slice_range text start end } ∷ words_from separators false (start + len) bytes) (drop-drop len start text)
          ∙ ap (λ k. record { place = start; bytes = slice_range text start end } ∷ words_from separators false k (drop k text)) (sym end_is),
      omega (arith, some_bytes, end_is),
    )
