-- A number that is coprime to a modulus has an inverse there.
use Rattle.std.proofs.Common.{◌≡◌, ℕ, zero, suc, ◌+◌, ◌*◌, ◌/◌, ◌%◌, ◌<◌, ◌≤◌, refl, sym, ap, ◌∙◌, subst, arith}
use Rattle.std.proofs.lemmas.Nat.Gcd.{same_from_IsGcd, IsGcd-from_zero}
use Rattle.std.proofs.Math.Nat.{one-dvd, mod-lt, mod-eq_of_lt, div-add-mod', add-mul-mod_self_right, dvd-mod_iff}
use Rattle.number_theory.specs.Coprime.{IsCoprime, IsInverse, inverse_of}
use Rattle.number_theory.proofs.CoprimeLemmas.{inverse_of-is}

-- a number that differs from r by turns of m leaves what r leaves
pub mod-from_turns : (x r m a b : ℕ) → x + a * m ≡ r + b * m → x % m ≡ r % m
mod-from_turns x r m a b e =
    sym (add-mul-mod_self_right x a m) ∙ ap (λ n. n % m) e ∙ add-mul-mod_self_right r b m

-- one of Euclid's steps keeps numbers coprime
IsCoprime-mod : (a b : ℕ) → 0 < b → IsCoprime a b → IsCoprime b (a % b)
IsCoprime-mod a b p h = (one-dvd b, one-dvd (a % b), λ d q r. h.2 d ((dvd-mod_iff d q).0 r) q)

-- Bezout: whole multiples of coprime a and b differ by 1, each multiple as a difference; n bounds Euclid's steps
record Bezout (a b : ℕ) : Type 0 where
  a_up : ℕ
  a_down : ℕ
  b_up : ℕ
  b_down : ℕ
  differ : a * a_up + b * b_up ≡ a * a_down + b * b_down + 1

bezout_step : (a b : ℕ) → Bezout b (a % b) → Bezout a b
bezout_step a b s =
    let q = a / b in
    let parts : a ≡ q * b + a % b = sym (div-add-mod' a b) in
    let by_up : a * s.b_up ≡ (q * b + a % b) * s.b_up = ap (λ n. n * s.b_up) parts in
    let by_down : a * s.b_down ≡ (q * b + a % b) * s.b_down = ap (λ n. n * s.b_down) parts in
    record {
      a_up = s.b_up;
      a_down = s.b_down;
      b_up = s.a_up + q * s.b_down;
      b_down = s.a_down + q * s.b_up;
      differ = omega (arith, s.differ, by_up, by_down);
    }

bezout_by : (n a b : ℕ) → b ≤ n → IsCoprime a b → Bezout a b
bezout_by n a zero h c =
    let one : a ≡ 1 = same_from_IsGcd a 0 a 1 (IsGcd-from_zero a 0 refl) c in
    record { a_up = 1; a_down = 0; b_up = 0; b_down = 0; differ = omega arith }
bezout_by zero a (suc b) h c = absurd (omega arith)
bezout_by (suc n) a (suc b) h c =
    let positive : 0 < suc b = omega arith in
    bezout_step a (suc b) (bezout_by n (suc b) (a % suc b) (omega (arith, mod-lt a positive)) (IsCoprime-mod a (suc b) positive c))

-- some multiple of a number that is coprime to m is 1, but for turns of m
pub turns_to_one : (a m : ℕ) → 0 < m → IsCoprime a m → (y : ℕ) × (v : ℕ) × (z : ℕ) × (a * y + v * m ≡ 1 + z * m)
turns_to_one a zero h c = absurd (omega arith)
turns_to_one a (suc k) h c =
    let s = bezout_by (suc k) a (suc k) (omega arith) c in
    (s.a_up + s.a_down * k, s.b_up, s.b_down + a * s.a_down, omega (arith, s.differ))

-- a number that is coprime to m has an inverse modulo m
pub inverse_of-exists : (a m : ℕ) → 1 < m → IsCoprime a m → IsInverse a m (inverse_of a m)
inverse_of-exists a m h c =
    let t = turns_to_one a m (omega arith) c in
    let y = t.0 % m in
    let q = t.0 / m in
    let parts : a * t.0 ≡ a * (q * m + y) = ap (λ n. a * n) (sym (div-add-mod' t.0 m)) in
    let turns : a * y + (a * q + t.1) * m ≡ 1 + t.2 * m = omega (arith, parts, t.3) in
    let leaves : (a * y) % m ≡ 1 = mod-from_turns (a * y) 1 m (a * q + t.1) t.2 turns ∙ mod-eq_of_lt h in
    let inverse : IsInverse a m y = record { small = mod-lt t.0 (omega arith); leaves_one = leaves } in
    subst (λ n. IsInverse a m n) (sym (inverse_of-is a m y inverse)) inverse
