-- The words of a line whose words stand one space apart.
use Rattle.std.proofs.Common.{◌≡◌, ℕ, ◌+◌, ◌<◌, ◌==◌, ◌&&◌, Bool, true, false, cond, not, List, [], ◌∷◌, ◌++◌, map, refl, ap, ◌∙◌, arith}
use Rattle.std.specs.Prelude.{if◌then◌else◌}
use Rattle.std.specs.List.{AllByRecursion, flat_map}
use Rattle.std.proofs.lemmas.Bool.Decides.{nat_tests}
use Rattle.std.proofs.lemmas.List.Sums.{take_while-cons}
use Rattle.plain_text.specs.Words.{WordAt, is_separator, word_prefix, words_from}
use Rattle.assembler.specs.Words.{without_comment, words_in}
use Rattle.assembler.proofs.FieldTexts.{IsPlain, IsPlainWord}

-- ---- words one space apart
-- each after a space
abbrev pub spaced : List (List ℕ) → List ℕ
spaced words = flat_map (λ word. 32 ∷ word) words

abbrev pub joined : List (List ℕ) → List ℕ
joined [] = []
joined (word ∷ words) = word ++ spaced words

-- ---- words without their places
abbrev separators : List ℕ
separators = 32 ∷ (9 ∷ [])

abbrev parted : Bool → List ℕ → List (List ℕ)
parted within [] = []
parted within (b ∷ bytes) =
    let in_word = not (is_separator separators b) in
    if in_word && not within then (word_prefix separators (b ∷ bytes) ∷ parted in_word bytes) else parted in_word bytes

map_choice : (test : Bool) (word : WordAt) (words : List WordAt) (texts : List (List ℕ)) → map (λ (w : WordAt). w.bytes) words ≡ texts → map (λ (w : WordAt). w.bytes) (cond test (word ∷ words) words) ≡ cond test (word.bytes ∷ texts) texts
map_choice true word words texts e = ap (λ (ts : List (List ℕ)). word.bytes ∷ ts) e
map_choice false word words texts e = e

parted_is : (within : Bool) (place : ℕ) (bytes : List ℕ) → map (λ (w : WordAt). w.bytes) (words_from separators within place bytes) ≡ parted within bytes
parted_is within place [] = refl
parted_is within place (b ∷ bytes) =
    map_choice (not (is_separator separators b) && not within) (record { place = place; bytes = word_prefix separators (b ∷ bytes) })
    (words_from separators (not (is_separator separators b)) (place + 1) bytes) (parted (not (is_separator separators b)) bytes)
    (parted_is (not (is_separator separators b)) (place + 1) bytes)

-- ---- a plain word
plain-no_separator : (b : ℕ) → 35 < b → is_separator separators b ≡ false
plain-no_separator b l = grind (arith, nat_tests)

parted-within : (b : ℕ) (bytes : List ℕ) → is_separator separators b ≡ false → parted true (b ∷ bytes) ≡ parted true bytes
parted-within b bytes h = ap (λ (t : Bool). cond (not t && false) (word_prefix separators (b ∷ bytes) ∷ parted (not t) bytes) (parted (not t) bytes)) h

parted-begins : (b : ℕ) (bytes : List ℕ) → is_separator separators b ≡ false → parted false (b ∷ bytes) ≡ word_prefix separators (b ∷ bytes) ∷ parted true bytes
parted-begins b bytes h = ap (λ (t : Bool). cond (not t && true) (word_prefix separators (b ∷ bytes) ∷ parted (not t) bytes) (parted (not t) bytes)) h

parted-plain : (word rest : List ℕ) → IsPlain word → parted true (word ++ rest) ≡ parted true rest
parted-plain [] rest h = refl
parted-plain (b ∷ word) rest h = parted-within b (word ++ rest) (plain-no_separator b h.0) ∙ parted-plain word rest h.1

-- it goes up to a rest that begins with none of its bytes
word_prefix-plain : (word rest : List ℕ) → IsPlain word → word_prefix separators rest ≡ [] → word_prefix separators (word ++ rest) ≡ word
word_prefix-plain [] rest h e = e
word_prefix-plain (b ∷ word) rest h e =
    take_while-cons (λ (c : ℕ). not (is_separator separators c)) b (word ++ rest)
    ∙ ap (λ (t : Bool). cond (not t) (b ∷ word_prefix separators (word ++ rest)) []) (plain-no_separator b h.0)
    ∙ ap (λ (bytes : List ℕ). b ∷ bytes) (word_prefix-plain word rest h.1 e)

word_prefix-spaced : (words : List (List ℕ)) → word_prefix separators (spaced words) ≡ []
word_prefix-spaced [] = refl
word_prefix-spaced (word ∷ words) = refl

first_word : (b : ℕ) (word : List ℕ) (words : List (List ℕ)) → IsPlain (b ∷ word) → parted true (spaced words) ≡ words → parted false ((b ∷ word) ++ spaced words) ≡ (b ∷ word) ∷ words
first_word b word words h rest =
    parted-begins b (word ++ spaced words) (plain-no_separator b h.0)
    ∙ ap (λ (w : List ℕ). w ∷ parted true (word ++ spaced words)) (word_prefix-plain (b ∷ word) (spaced words) h (word_prefix-spaced words))
    ∙ ap (λ (ws : List (List ℕ)). (b ∷ word) ∷ ws) (parted-plain word (spaced words) h.1 ∙ rest)

parted-spaced : (within : Bool) (words : List (List ℕ)) → AllByRecursion IsPlainWord words → parted within (spaced words) ≡ words
parted-spaced within [] h = refl
parted-spaced within ([] ∷ words) h = absurd (omega (arith, h.0.0))
parted-spaced within ((b ∷ word) ∷ words) h = first_word b word words h.0.1 (parted-spaced true words h.1)

parted-joined : (words : List (List ℕ)) → AllByRecursion IsPlainWord words → parted false (joined words) ≡ words
parted-joined [] h = refl
parted-joined ([] ∷ words) h = absurd (omega (arith, h.0.0))
parted-joined ((b ∷ word) ∷ words) h = first_word b word words h.0.1 (parted-spaced true words h.1)

-- ---- bytes of a line: none begins a comment, and none ends a line
abbrev pub AreLineBytes : List ℕ → Type 0
AreLineBytes [] = Unit {0}
AreLineBytes (b ∷ bytes) = (31 < b) × (b ≡ 35 → ⊥) × AreLineBytes bytes

line_bytes-append : (xs ys : List ℕ) → IsPlain xs → AreLineBytes ys → AreLineBytes (xs ++ ys)
line_bytes-append [] ys h h' = h'
line_bytes-append (x ∷ xs) ys h h' = let above = h.0 in (omega arith, (λ (e : x ≡ 35). omega arith), line_bytes-append xs ys h.1 h')

line_bytes-spaced : (words : List (List ℕ)) → AllByRecursion IsPlainWord words → AreLineBytes (spaced words)
line_bytes-spaced [] h = tt
line_bytes-spaced (word ∷ words) h = (omega arith, (λ (e : 32 ≡ 35). omega arith), line_bytes-append word (spaced words) h.0.1 (line_bytes-spaced words h.1))

pub line_bytes-joined : (words : List (List ℕ)) → AllByRecursion IsPlainWord words → AreLineBytes (joined words)
line_bytes-joined [] h = tt
line_bytes-joined (word ∷ words) h = line_bytes-append word (spaced words) h.0.1 (line_bytes-spaced words h.1)

no_comment : (b : ℕ) → (b ≡ 35 → ⊥) → not (b == 35) ≡ true
no_comment b h = grind (arith, nat_tests)

without_comment-same : (bytes : List ℕ) → AreLineBytes bytes → without_comment bytes ≡ bytes
without_comment-same [] h = refl
without_comment-same (b ∷ bytes) h =
    take_while-cons (λ (c : ℕ). not (c == 35)) b bytes
    ∙ ap (λ (t : Bool). cond t (b ∷ without_comment bytes) []) (no_comment b h.1)
    ∙ ap (λ (bs : List ℕ). b ∷ bs) (without_comment-same bytes h.2)

pub words_in-joined : (words : List (List ℕ)) → AllByRecursion IsPlainWord words → words_in (joined words) ≡ words
words_in-joined words h =
    ap (λ (bytes : List ℕ). map (λ (w : WordAt). w.bytes) (words_from separators false 0 bytes)) (without_comment-same (joined words) (line_bytes-joined words h))
    ∙ parted_is false 0 (joined words)
    ∙ parted-joined words h
