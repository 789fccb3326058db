-- Remainders by p - 1 and by p + 1 from the low part x % p and the carry x / p, where p is a power of 2.
use Rattle.std.proofs.Common.{◌≡◌, ℕ, ◌+◌, ◌-◌, ◌*◌, ◌/◌, ◌%◌, ◌<◌, ◌≤◌, ◌≢◌, sym, ap, ◌∙◌, arith}
use Rattle.std.proofs.lemmas.Nat.{mod-mul-add}
use Rattle.std.proofs.Math.Nat.{mod-lt, mod-eq_of_lt, mod_self, div-add-mod', add-mul-mod_self_right}

-- one round of the end-around carry: the carry is added to the low part
abbrev pub end_around : ℕ → ℕ → ℕ
end_around x p = x % p + x / p

abbrev pub end_around_twice : ℕ → ℕ → ℕ
end_around_twice x p = end_around (end_around x p) p

-- a round leaves the remainder by p - 1 as it is
end_around-mod : (x m : ℕ) → end_around x (m + 1) % m ≡ x % m
end_around-mod x m =
    let whole : x ≡ end_around x (m + 1) + x / (m + 1) * m = omega (arith, div-add-mod' x (m + 1)) in
    sym (ap (λ n. n % m) whole ∙ add-mul-mod_self_right (end_around x (m + 1)) (x / (m + 1)) m)

-- and so do two
end_around_twice-mod : (x m : ℕ) → end_around_twice x (m + 1) % m ≡ x % m
end_around_twice-mod x m = end_around-mod (end_around x (m + 1)) m ∙ end_around-mod x m

-- two rounds leave at most m of a number that is at most m * (m - 1), where m is p - 1
end_around_twice-le : (x m : ℕ) → 0 < m → x ≤ m * (m - 1) → end_around_twice x (m + 1) ≤ m
end_around_twice-le x m h le = grind arith

-- the remainder by p - 1 is what is left after two rounds; all bits set stand for 0
pub mod-all_set : (x m p : ℕ) → p ≡ m + 1 → end_around_twice x p ≡ m → x % m ≡ 0
mod-all_set x m p is e =
    let left : end_around_twice x (m + 1) ≡ m = ap (end_around_twice x) (sym is) ∙ e in
    sym (end_around_twice-mod x m) ∙ ap (λ n. n % m) left ∙ mod_self m

pub mod-end_around : (x m p : ℕ) → p ≡ m + 1 → 0 < m → x ≤ m * (m - 1) → end_around_twice x p ≢ m → x % m ≡ end_around_twice x p
mod-end_around x m p is h le ne =
    let same : end_around_twice x p ≡ end_around_twice x (m + 1) = ap (end_around_twice x) is in
    let below : end_around_twice x (m + 1) < m = omega (arith, end_around_twice-le x m h le, same) in
    sym (end_around_twice-mod x m) ∙ mod-eq_of_lt below ∙ sym same

-- the remainder by p + 1 is the low part less the carry
pub mod-carry_subtracted : (x p : ℕ) → 0 < p → x / p ≤ x % p → x % (p + 1) ≡ x % p - x / p
mod-carry_subtracted x p h le =
    let whole : x ≡ x / p * (p + 1) + (x % p - x / p) = omega (arith, div-add-mod' x p) in
    let below : x % p - x / p < p + 1 = omega (arith, mod-lt x h) in
    ap (λ n. n % (p + 1)) whole ∙ mod-mul-add (x / p) (p + 1) (x % p - x / p) below

-- the carry of a number that is at most m * (m - 1) is at most m, where m is p + 1
pub carry-le : (x p : ℕ) → 0 < p → x ≤ (p + 1) * p → x / p ≤ p + 1
carry-le x p h le = grind arith

-- and p + 1 is added where the carry is the greater one
pub mod-greater_carry : (x p : ℕ) → 0 < p → x ≤ (p + 1) * p → x % p < x / p → x % (p + 1) ≡ x % p + (p + 1) - x / p
mod-greater_carry x p h le lt =
    let rest = x % p + (p + 1) - x / p in
    let whole : x ≡ (x / p - 1) * (p + 1) + rest = grind (arith, div-add-mod' x p, carry-le) in
    let below : rest < p + 1 = omega arith in
    ap (λ n. n % (p + 1)) whole ∙ mod-mul-add (x / p - 1) (p + 1) rest below
