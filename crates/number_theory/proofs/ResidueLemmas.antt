-- Laws of residues.
use Rattle.std.proofs.Common.{◌≡◌, ℕ, ◌+◌, ◌*◌, ◌/◌, ◌%◌, ◌<◌, refl, sym, ap, ◌∙◌, arith, ℤ, pos, negsuc, neg_ℤ, ◌+ℤ◌, ◌-ℤ◌, ◌*ℤ◌}
use Rattle.std.specs.Int.{int_rem_euclid}
use Rattle.std.proofs.lemmas.Int.{ints, int_rem_euclid_is}
use Rattle.std.proofs.Math.Nat.{mod-lt, mod-eq_of_lt, div-add-mod', add-mul-mod_self_right}
use Rattle.std.proofs.Math.IntN.{*ℤ_comm}
use borrow.Author.Differences.{up, down}
use Rattle.number_theory.specs.Residue.{residue}

-- a residue is below its modulus
pub residue-below : (x : ℤ) (m : ℕ) → 0 < m → residue x m < m
residue-below (pos n) m h = mod-lt n h
residue-below (negsuc n) m h = omega arith

rem_euclid-residue : (x : ℤ) (m : ℕ) → int_rem_euclid x (pos m) ≡ pos (residue x m)
rem_euclid-residue (pos n) m = refl
rem_euclid-residue (negsuc n) m = refl

-- x and k turns of m are the natural n
pub residue_is : (x : ℤ) (m k n : ℕ) → 0 < m → x +ℤ pos (k * m) ≡ pos n → residue x m ≡ n % m
residue_is x m k n h e = ap up (sym (rem_euclid-residue x m) ∙ int_rem_euclid_is x (pos m) m k n h refl e)

-- by how many turns of m an integer and its residue differ
pub residue_turns : (x : ℤ) (m : ℕ) → 0 < m → (k : ℕ) × (q : ℕ) × (up x + k * m ≡ residue x m + q * m + down x)
residue_turns (pos n) m h = (0, n / m, omega (arith, div-add-mod' n m))
residue_turns (negsuc n) m h = (n / m + 1, 0, omega (arith, div-add-mod' n m, mod-lt n h))

-- integers that differ by turns of m have one residue
pub residue_same : (x y : ℤ) (m a b : ℕ) → 0 < m → up x + down y + a * m ≡ up y + down x + b * m → residue x m ≡ residue y m
residue_same x y m a b h e =
    let t = residue_turns y m h in
    let n = residue y m + (t.1 + b) * m in
    let shifted : x +ℤ pos ((a + t.0) * m) ≡ pos n = omega (arith, ints, t.2) in
    residue_is x m (a + t.0) n h shifted ∙ add-mul-mod_self_right (residue y m) (t.1 + b) m ∙ mod-eq_of_lt (residue-below y m h)

-- and is its own residue
pub residue-residue : (x : ℤ) (m : ℕ) → 0 < m → residue (pos (residue x m)) m ≡ residue x m
residue-residue x m h = mod-eq_of_lt (residue-below x m h)

-- of sums, differences, products and negations
pub residue-add : (x y : ℤ) (m : ℕ) → 0 < m → residue (x +ℤ y) m ≡ (residue x m + residue y m) % m
residue-add x y m h =
    let s = residue_turns x m h in
    let t = residue_turns y m h in
    residue_same (x +ℤ y) (pos (residue x m + residue y m)) m (s.0 + t.0) (s.1 + t.1) h (omega (arith, ints, s.2, t.2))

pub residue-sub : (x y : ℤ) (m : ℕ) → 0 < m → residue (x -ℤ y) m ≡ residue (pos (residue x m) -ℤ pos (residue y m)) m
residue-sub x y m h =
    let s = residue_turns x m h in
    let t = residue_turns y m h in
    residue_same (x -ℤ y) (pos (residue x m) -ℤ pos (residue y m)) m (s.0 + t.1) (s.1 + t.0) h (omega (arith, ints, s.2, t.2))

-- both sides of an equation, times x
scaled_mul : (a b x : ℕ) → a ≡ b → a * x ≡ b * x
scaled_mul a b x e = ap (λ n. n * x) e

-- the left factor may be replaced by its residue
residue_mul_left : (x y : ℤ) (m : ℕ) → 0 < m → residue (x *ℤ y) m ≡ residue (pos (residue x m) *ℤ y) m
residue_mul_left x y m h =
    let s = residue_turns x m h in
    let r = residue x m in
    let by_up = scaled_mul (up x + s.0 * m) (r + s.1 * m + down x) (up y) s.2 in
    let by_down = scaled_mul (up x + s.0 * m) (r + s.1 * m + down x) (down y) s.2 in
    residue_same (x *ℤ y) (pos r *ℤ y) m (s.0 * up y + s.1 * down y) (s.1 * up y + s.0 * down y) h (omega (arith, ints, by_up, by_down))

pub residue-mul : (x y : ℤ) (m : ℕ) → 0 < m → residue (x *ℤ y) m ≡ (residue x m * residue y m) % m
residue-mul x y m h =
    let a = pos (residue x m) in
    let b = pos (residue y m) in
    residue_mul_left x y m h ∙ ap (λ z. residue z m) (*ℤ_comm a y) ∙ residue_mul_left y a m h ∙ ap (λ z. residue z m) (*ℤ_comm b a)

pub residue-neg : (x : ℤ) (m : ℕ) → 0 < m → residue (neg_ℤ x) m ≡ residue (neg_ℤ (pos (residue x m))) m
residue-neg x m h =
    let s = residue_turns x m h in
    residue_same (neg_ℤ x) (neg_ℤ (pos (residue x m))) m s.1 s.0 h (omega (arith, ints, s.2))
