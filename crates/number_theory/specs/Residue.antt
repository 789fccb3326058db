-- Remainders of integers by the floor quotient.
use Rattle.std.specs.Prelude.{◌≡◌, ℕ, ℤ, pos, negsuc, ◌-◌, ◌/◌, ◌%◌, ◌<◌, List, [], ◌∷◌, map}
use Rattle.number_theory.specs.Coprime.{product}

-- the remainder of x by m after the floor quotient, 0 to m - 1; negsuc n is -(n + 1)
abbrev pub residue : ℤ → ℕ → ℕ
residue (pos n) m = n % m
residue (negsuc n) m = m - 1 - n % m

-- the floor of x / m
abbrev pub quotient : ℤ → ℕ → ℤ
quotient (pos n) m = pos (n / m)
quotient (negsuc n) m = negsuc (n / m)

-- one number for each modulus, below it
abbrev pub AreResidues : List ℕ → List ℕ → Type 0
AreResidues [] [] = Unit {0}
AreResidues [] (r ∷ rs) = ⊥
AreResidues (m ∷ ms) [] = ⊥
AreResidues (m ∷ ms) (r ∷ rs) = (r < m) × AreResidues ms rs

-- n is below the product of the moduli and has these residues
pub record IsNumberOf (ms rs : List ℕ) (n : ℕ) : Type 0 where
  pub small : n < product ms
  pub residues : map (λ m. n % m) ms ≡ rs
