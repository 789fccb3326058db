-- What a decoder answers.
use Rattle.std.specs.Prelude.{◌≡◌, ℕ, ℤ, List, [], ◌∷◌, Option, Some, None}
use Rattle.moduli_sets.specs.Set.{ModuliSet, IsInRange}
use Rattle.moduli_sets.specs.Vector.{vector_of}
use Rattle.redundant_decoder.specs.declared.decoder.Verdict.{Verdict}
use Rattle.redundant_decoder.specs.declared.decoder.Verdict.TheVariants.{Clean, Corrected, Damaged}
use Rattle.redundant_decoder.specs.Nearest.{IsNearest, different_places, without}

-- x is the nearest integer of v, and channel i is the one in which v differs from its vector
pub record IsCorrection (t : ℕ) (erased : Option ℕ) (set : ModuliSet) (v : List ℕ) (x : ℤ) (i : ℕ) : Type 0 where
  pub nearest : IsNearest t erased set v (Some x)
  pub places : different_places erased (vector_of set.moduli x) v ≡ i ∷ []

-- The verdict on v, where t wrong residues at the most are corrected and an erased channel counts for nothing: the
-- integer in range that has this vector; or the nearest one and the channel that is wrong; or that there is none.
abbrev pub IsVerdict : ℕ → Option ℕ → ModuliSet → List ℕ → Verdict → Type 0
IsVerdict t erased set v (Clean x) = IsInRange set x × (without erased v ≡ without erased (vector_of set.moduli x))
IsVerdict t erased set v (Corrected x i) = IsCorrection t erased set v x i
IsVerdict t erased set v Damaged = IsNearest t erased set v None

-- the verdict is the integer x, clean or corrected
abbrev pub HasInteger : Verdict → ℤ → Type 0
HasInteger (Clean y) x = y ≡ x
HasInteger (Corrected y i) x = y ≡ x
HasInteger Damaged x = ⊥
