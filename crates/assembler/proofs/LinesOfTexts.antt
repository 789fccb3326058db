-- The lines of a text whose lines end with LF each.
use Rattle.std.proofs.Common.{◌≡◌, ℕ, zero, suc, ◌-◌, ◌<◌, ◌==◌, false, List, [], ◌∷◌, ◌++◌, length, map, refl, ap, ◌∙◌, arith, append_assoc}
use Rattle.std.specs.Prelude.{slice_index}
use Rattle.std.specs.List.{AllByRecursion, flat_map, slice_split}
use Rattle.std.specs.Str.Lines.{strip_carriage_return}
use Rattle.std.proofs.lemmas.Bool.{cond-false}
use Rattle.std.proofs.lemmas.Bool.Decides.{nat_tests}
use Rattle.std.proofs.lemmas.List.Elements.{All-from_recursion}
use Rattle.std.proofs.lemmas.List.Splits.{slice_split_at}
use Rattle.assembler.specs.Words.{said_in, without_returns, words_in}
use Rattle.assembler.proofs.FieldTexts.{IsPlainWord}
use Rattle.assembler.proofs.WordsOfLines.{AreLineBytes, joined, line_bytes-joined, words_in-joined}

-- ---- words of lines
-- the text of lines that have these words
abbrev pub text_of : List (List (List ℕ)) → List ℕ
text_of said = flat_map (λ words. joined words ++ 10 ∷ []) said

abbrev pub ArePlain : List (List (List ℕ)) → Type 0
ArePlain said = AllByRecursion (AllByRecursion IsPlainWord) said

-- the lines that a text of them has: the last one is empty
abbrev ended : List (List (List ℕ)) → List (List ℕ)
ended [] = [] ∷ []
ended (words ∷ said) = joined words ∷ ended said

-- ---- no byte of a line ends it
no_feed : (b : ℕ) → 31 < b → (b == 10) ≡ false
no_feed b l = grind (arith, nat_tests)

no_return : (b : ℕ) → 31 < b → (b == 13) ≡ false
no_return b l = grind (arith, nat_tests)

no_feeds : (bytes : List ℕ) → AreLineBytes bytes → AllByRecursion (λ b. (b == 10) ≡ false) bytes
no_feeds [] h = tt
no_feeds (b ∷ bytes) h = (no_feed b h.0, no_feeds bytes h.2)

no_return_at : (bytes : List ℕ) (k : ℕ) → AreLineBytes bytes → (slice_index bytes k == 13) ≡ false
no_return_at [] k h = refl
no_return_at (b ∷ bytes) zero h = no_return b h.0
no_return_at (b ∷ bytes) (suc k) h = no_return_at bytes k h.2

strip-same : (bytes : List ℕ) → AreLineBytes bytes → strip_carriage_return bytes ≡ bytes
strip-same bytes h = cond-false (slice_index bytes (length bytes - 1) == 13) _ bytes (no_return_at bytes (length bytes - 1) h)

-- ---- the lines
split-text : (said : List (List (List ℕ))) → ArePlain said → slice_split (λ b. b == 10) (text_of said) ≡ ended said
split-text [] h = refl
split-text (words ∷ said) h =
    ap (slice_split (λ (b : ℕ). b == 10)) (append_assoc (joined words) (10 ∷ []) (text_of said))
    ∙ slice_split_at (λ (b : ℕ). b == 10) (joined words) 10 (text_of said)
    (All-from_recursion (λ (b : ℕ). (b == 10) ≡ false) (joined words) (no_feeds (joined words) (line_bytes-joined words h.0))) refl
    ∙ ap (λ (lines : List (List ℕ)). joined words ∷ lines) (split-text said h.1)

without_returns-ended : (said : List (List (List ℕ))) → ArePlain said → without_returns (ended said) ≡ ended said
without_returns-ended [] h = refl
without_returns-ended (words ∷ []) h = ap (λ (line : List ℕ). line ∷ ([] ∷ [])) (strip-same (joined words) (line_bytes-joined words h.0))
without_returns-ended (words ∷ (next ∷ said)) h =
    ap (λ (line : List ℕ). line ∷ without_returns (ended (next ∷ said))) (strip-same (joined words) (line_bytes-joined words h.0))
    ∙ ap (λ (lines : List (List ℕ)). joined words ∷ lines) (without_returns-ended (next ∷ said) h.1)

words_in-ended : (said : List (List (List ℕ))) → ArePlain said → map words_in (ended said) ≡ said ++ [] ∷ []
words_in-ended [] h = refl
words_in-ended (words ∷ said) h =
    ap (λ (ws : List (List ℕ)). ws ∷ map words_in (ended said)) (words_in-joined words h.0)
    ∙ ap (λ (rest : List (List (List ℕ))). words ∷ rest) (words_in-ended said h.1)

-- a text of lines has their words, and an empty line after the last LF
pub said_in-text : (said : List (List (List ℕ))) → ArePlain said → said_in (text_of said) ≡ said ++ [] ∷ []
said_in-text said h =
    ap (λ (lines : List (List ℕ)). map words_in (without_returns lines)) (split-text said h)
    ∙ ap (map words_in) (without_returns-ended said h)
    ∙ words_in-ended said h
