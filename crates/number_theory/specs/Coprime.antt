-- Coprime numbers, products and inverses.
use Rattle.std.specs.Prelude.{◌≡◌, ℕ, zero, suc, ◌*◌, ◌%◌, ◌<◌, ◌==◌, List, [], ◌∷◌, AllPairs, if◌then◌else◌}
use Rattle.std.specs.Int.{IsGcd}

-- no divisor in common but 1
abbrev pub IsCoprime : ℕ → ℕ → Type 0
IsCoprime a b = IsGcd a b 1

-- any two of the numbers are coprime
abbrev pub ArePairwiseCoprime : List ℕ → Type 0
ArePairwiseCoprime ms = AllPairs IsCoprime ms

-- the product of all numbers of a list
abbrev pub product : List ℕ → ℕ
product [] = 1
product (m ∷ ms) = m * product ms

-- y is the inverse of a modulo m: the number below m whose product with a has the remainder 1
pub record IsInverse (a m y : ℕ) : Type 0 where
  pub small : y < m
  pub leaves_one : (a * y) % m ≡ 1

-- the greatest number below n whose product with a has the remainder 1 modulo m; 0 where there is none
unfoldable pub inverse_below : ℕ → ℕ → ℕ → ℕ
inverse_below a m zero = 0
inverse_below a m (suc n) = if (a * n) % m == 1 then n else inverse_below a m n

-- the inverse of a modulo m; 0 where a has none
abbrev pub inverse_of : ℕ → ℕ → ℕ
inverse_of a m = inverse_below a m m
