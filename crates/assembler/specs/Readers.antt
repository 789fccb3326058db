-- What the readers of a line's words say: which fields the next words write, whatever places names have.
use Rattle.std.specs.Prelude.{◌≡◌, ℕ, Bool, true, false, List, [], ◌∷◌, ◌++◌, drop, map}
use Rattle.plain_text.specs.Words.{words_from}
use Rattle.assembler.specs.Fields.{Field}
use Rattle.assembler.specs.Words.{Places, Writes}
use Rattle.assembler.specs.Statements.{WriteAll}

-- the words of a line that begin at a place or after it
abbrev pub words_after : ℕ → List ℕ → List (List ℕ)
words_after place line = map (λ word. word.bytes) (words_from (32 ∷ (9 ∷ [])) false place (drop place line))

-- ---- one word
-- the word writes no field of a kind
abbrev pub WritesNo : {A : Type 0} → (A → Field) → List ℕ → Type 0
WritesNo f word = (places : Places) (x : _) → Writes places word (f x) → ⊥

-- the word writes this field of the kind and no other
pub record WritesOnly {A : Type 0} (f : A → Field) (word : List ℕ) (x : A) : Type 0 where
  pub writes : (places : Places) → Writes places word (f x)
  pub only : (places : Places) (y : A) → Writes places word (f y) → y ≡ x

-- ---- the next words
abbrev pub field_if : Bool → Field → List Field
field_if true field = field ∷ []
field_if false field = []

-- Which fields the next of the words `old` write; f x are the fields of x, and `said` tells which x it is, with these places.
-- The words after them are `new`.
pub record IsRead {A : Type 0} (f : A → List Field) (said : Places → A → Type 0) (old new : List (List ℕ)) : Type 0 where
  pub writes : (places : Places) (x : A) (rest : List Field) → said places x → WriteAll places new rest → WriteAll places old (f x ++ rest)
  pub only : (places : Places) (y : A) (rest : List Field) → WriteAll places old (f y ++ rest) → ((x : A) × said places x × (f y ≡ f x)) × WriteAll places new rest

-- the next words write the fields of no x
abbrev pub IsUnread : {A : Type 0} → (A → List Field) → List (List ℕ) → Type 0
IsUnread f old = (places : Places) (y : _) (rest : List Field) → WriteAll places old (f y ++ rest) → ⊥

-- it is this x, whatever the places are
abbrev pub is_this : {A : Type 0} → A → Places → A → Type 0
is_this x places y = y ≡ x
