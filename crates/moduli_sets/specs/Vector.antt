-- Integers as lists of residues.
use Rattle.std.specs.Prelude.{ℕ, ℤ, List, map}
use Rattle.number_theory.specs.Residue.{residue}

-- the residues of x, one for each modulus (Garner 1959)
abbrev pub vector_of : List ℕ → ℤ → List ℕ
vector_of moduli x = map (residue x) moduli
