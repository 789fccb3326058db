-- The bytes of a word among the bytes of all words.
use Rattle.std.proofs.Common.{◌≡◌, ℕ, ◌<◌, List, [], length, get_or, map, sym, ap, ◌∙◌}
use Rattle.std.proofs.lemmas.List.{get_or-map}

pub word_at : {X : Type 0} (bytes : X → List ℕ) (words : List X) (i : ℕ) (item : X) (word : List ℕ) → i < length words
    → item ≡ get_or words i item → word ≡ bytes item → word ≡ get_or (map bytes words) i []
word_at bytes words i item word some of_words is_bytes = is_bytes ∙ ap bytes of_words
    ∙ sym (get_or-map bytes words i item [] some)
