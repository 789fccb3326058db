-- Mixed-radix digits (Garner 1959).
use Rattle.std.specs.Prelude.{ℕ, ◌+◌, ◌*◌, ◌/◌, ◌%◌, List, [], ◌∷◌}

-- The digits of n to a list of moduli: n is d0 + d1 * m0 + d2 * m0 * m1 + .., each digit below its modulus, where
-- n is below the product of all.
abbrev pub digits : List ℕ → ℕ → List ℕ
digits [] n = []
digits (m ∷ ms) n = (n % m) ∷ digits ms (n / m)

-- the number that digits write
abbrev pub digits_value : List ℕ → List ℕ → ℕ
digits_value [] ds = 0
digits_value (m ∷ ms) [] = 0
digits_value (m ∷ ms) (d ∷ ds) = d + m * digits_value ms ds
