-- The residue of a difference times a number, from the residue of the difference.
use Rattle.std.proofs.Common.{◌≡◌, ℕ, ℤ, pos, ◌*◌, ◌%◌, ◌<◌, ◌*ℤ◌, ap, ◌∙◌, arith}
use Rattle.std.proofs.Math.Nat.{mod-eq_of_lt}
use Rattle.number_theory.specs.Residue.{residue}
use Rattle.number_theory.proofs.ResidueLemmas.{residue-mul}

-- the residue of x times a number below the modulus
pub residue-times : (x : ℤ) (n m : ℕ) → n < m → residue (x *ℤ pos n) m ≡ (residue x m * n) % m
residue-times x n m h =
    let positive : 0 < m = omega arith in
    residue-mul x (pos n) m positive ∙ ap (λ r. (residue x m * r) % m) (mod-eq_of_lt h)
