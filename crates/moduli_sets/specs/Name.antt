-- The named sets.
use Rattle.std.specs.Prelude.{ℕ, List, [], ◌∷◌, codes, find, Option}
use Rattle.std.specs.Str.{bytes_eq}
use Rattle.moduli_sets.specs.declared.set_name.SetName.{SetName}
use Rattle.moduli_sets.specs.declared.set_name.SetName.TheVariants.{Pocket, Desk, Hall}
use Rattle.moduli_sets.specs.Set.{ModuliSet}

-- the table of sets
abbrev pub set_of_name : SetName → ModuliSet
set_of_name Pocket = record { moduli = 13 ∷ 15 ∷ 16 ∷ 17 ∷ 19 ∷ []; info = 2 }
set_of_name Desk = record { moduli = 239 ∷ 241 ∷ 247 ∷ 251 ∷ 253 ∷ 255 ∷ 256 ∷ 257 ∷ []; info = 5 }
set_of_name Hall = record { moduli = 32707 ∷ 32713 ∷ 32717 ∷ 32719 ∷ 32749 ∷ 32767 ∷ 32768 ∷ 32769 ∷ []; info = 5 }

-- the word that names a set
abbrev pub word_of_name : SetName → List ℕ
word_of_name Pocket = codes "pocket"
word_of_name Desk = codes "desk"
word_of_name Hall = codes "hall"

-- the set that a word names
abbrev pub set_named : List ℕ → Option SetName
set_named word = find (λ name. bytes_eq word (word_of_name name)) (Pocket ∷ (Desk ∷ (Hall ∷ [])))
