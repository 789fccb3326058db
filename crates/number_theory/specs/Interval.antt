-- Products of the ends of two intervals of integers.
use Rattle.std.specs.Prelude.{ℤ, ◌*ℤ◌}
use Rattle.std.specs.Int.{int_min, int_max}

-- the least product of an end of l1 to h1 and an end of l2 to h2
abbrev pub least_product : ℤ → ℤ → ℤ → ℤ → ℤ
least_product l1 h1 l2 h2 =
    int_min (int_min (l1 *ℤ l2) (l1 *ℤ h2)) (int_min (h1 *ℤ l2) (h1 *ℤ h2))

-- the greatest of these products
abbrev pub greatest_product : ℤ → ℤ → ℤ → ℤ → ℤ
greatest_product l1 h1 l2 h2 =
    int_max (int_max (l1 *ℤ l2) (l1 *ℤ h2)) (int_max (h1 *ℤ l2) (h1 *ℤ h2))
