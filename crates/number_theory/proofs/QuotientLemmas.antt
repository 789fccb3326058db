-- Floor quotients by a number that has an inverse modulo m.
use Rattle.std.proofs.Common.{◌≡◌, ℕ, zero, suc, ◌+◌, ◌*◌, ◌/◌, ◌<◌, ap, arith, inl, inr, ℤ, pos, negsuc, ◌-ℤ◌, ◌*ℤ◌}
use Rattle.std.proofs.lemmas.Bool.{cases_eq}
use Rattle.std.proofs.lemmas.Int.{ints}
use Rattle.std.proofs.Math.Nat.{zero-mul, mod-lt, div-add-mod'}
use borrow.Author.Differences.{up, down}
use Rattle.number_theory.specs.Coprime.{IsCoprime, IsInverse, inverse_of}
use Rattle.number_theory.specs.Residue.{quotient, residue}
use Rattle.number_theory.proofs.CoprimeLemmas.{IsCoprime-swap}
use Rattle.number_theory.proofs.InverseLemmas.{inverse_of-exists}
use Rattle.number_theory.proofs.ResidueLemmas.{residue-below, residue_turns, residue_same}

-- a difference times y, as a difference of naturals
pub times_difference : (a d y : ℕ) → up ((pos a -ℤ pos d) *ℤ pos y) + d * y ≡ a * y + down ((pos a -ℤ pos d) *ℤ pos y)
times_difference a d y =
    let x = pos a -ℤ pos d in
    let apart : up x + d ≡ a + down x = omega (arith, ints) in
    let scaled : (up x + d) * y ≡ (a + down x) * y = ap (λ n. n * y) apart in
    omega (arith, ints, scaled)

-- an integer is its floor quotient times s, and its residue
quotient_turns : (x : ℤ) (s : ℕ) → 0 < s → up x + down (quotient x s) * s ≡ up (quotient x s) * s + residue x s + down x
quotient_turns (pos n) s h = omega (arith, div-add-mod' n s)
quotient_turns (negsuc n) s h = omega (arith, div-add-mod' n s, mod-lt n h)

-- what has an inverse is not 0
positive_from_inverse : (s m y : ℕ) → IsInverse s m y → 0 < s
positive_from_inverse zero m y h = absurd (omega (arith, zero-mul y, h.leaves_one))
positive_from_inverse (suc s) m y h = omega arith

-- n times a number that is t turns of m and 1
times_one : (n s y t m : ℕ) → s * y ≡ t * m + 1 → n * s * y ≡ n * t * m + n
times_one n s y t m e = let scaled : n * (s * y) ≡ n * (t * m + 1) = ap (λ k. n * k) e in omega (arith, scaled)

-- the residue of the floor quotient by s is that of x less its residue modulo s, times the inverse of s
pub residue-quotient : (x : ℤ) (m s y : ℕ) → IsInverse s m y → residue (quotient x s) m ≡ residue ((pos (residue x m) -ℤ pos (residue x s)) *ℤ pos y) m
residue-quotient x m s y inverse =
    let h = positive_from_inverse s m y inverse in
    let positive : 0 < m = omega (arith, inverse.small) in
    let q = quotient x s in
    let a = residue x m in
    let r = residue x s in
    let w = residue_turns x m positive in
    let t = (s * y) / m in
    let one : s * y ≡ t * m + 1 = omega (arith, div-add-mod' (s * y) m, inverse.leaves_one) in
    let both : a + w.1 * m + down q * s ≡ up q * s + r + w.0 * m = omega (arith, w.2, quotient_turns x s h) in
    let scaled : (a + w.1 * m + down q * s) * y ≡ (up q * s + r + w.0 * m) * y = ap (λ n. n * y) both in
    residue_same q ((pos a -ℤ pos r) *ℤ pos y) m (up q * t + w.0 * y) (down q * t + w.1 * y) positive
    (omega (arith, scaled, times_one (up q) s y t m one, times_one (down q) s y t m one, times_difference a r y))

-- and s has an inverse where it is coprime to m
pub residue-quotient_coprime : (x : ℤ) (m s : ℕ) → 0 < m → 0 < s → IsCoprime m s → residue (quotient x s) m ≡ residue ((pos (residue x m) -ℤ pos (residue x s)) *ℤ pos (inverse_of s m)) m
residue-quotient_coprime x m s positive h coprime =
    let left = quotient x s in
    let right = (pos (residue x m) -ℤ pos (residue x s)) *ℤ pos (inverse_of s m) in
    elim (cases_eq m 1) [
      | inl one ↦ omega (arith, residue-below left m positive, residue-below right m positive)
      | inr other ↦
          residue-quotient x m s (inverse_of s m) (inverse_of-exists s m (omega arith) (IsCoprime-swap m s coprime))
    ]
