use Rattle.std.proofs.Common.{◌≡◌, ◌≢◌, ℕ, List, [], ◌∷◌, None, length, map, string_bytes, refl, sym, arith}
use borrow.Author.Tests.{ltb-false, ltb-true}
use Rattle.command_words.specs.Words.{encode_job}
use Rattle.command_words.proofs.words.encode_job.Goals as goal
use Rattle.command_words.proofs.words.encode_job.Goals.{in_default-via-then-words-lt3, in_default-via-else-words-lt3+else-words-lt4}

-- other than three words ask for no job
not_three : {X : Type 0} (bytes : X → List ℕ) (words : List X) → length words ≢ 3 → encode_job (map bytes words) ≡ None
not_three bytes [] apart = refl
not_three bytes (command ∷ []) apart = refl
not_three bytes (command ∷ (name ∷ [])) apart = refl
not_three bytes (command ∷ (name ∷ (number ∷ []))) apart = absurd (apart refl)
not_three bytes (command ∷ (name ∷ (number ∷ (other ∷ words)))) apart = refl

pub returns-in_default-clause-value : goal.returns-in_default-clause-value
returns-in_default-clause-value c =
    sym (not_three string_bytes c.args.words.now (λ three. elim c.in_default.branch [
      | in_default-via-then-words-lt3 w ↦ omega (arith, ltb-true)
      | in_default-via-else-words-lt3+else-words-lt4 w ↦ omega (arith, ltb-false)
    ]))
