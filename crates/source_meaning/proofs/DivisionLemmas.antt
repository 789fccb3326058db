-- Floor quotients and what they leave, by quotients and remainders that are rounded toward zero.
use Rattle.std.proofs.Common.{◌≡◌, ℕ, zero, suc, ◌-◌, ◌%◌, ◌/◌, ◌<◌, ◌≤◌, ℤ, pos, negsuc, neg_ℤ, ◌+ℤ◌, ◌-ℤ◌, ◌<ℤ◌, ◌≤ℤ◌, Some, None, to_z, of_z, refl, sym, ap, ◌∙◌, subst, arith}
use Rattle.std.specs.Prelude.{if◌then◌else◌}
use Rattle.std.proofs.lemmas.Int.{ints, to_z-of_z}
use Rattle.std.proofs.Math.Nat.{mod-lt, mod-le, div-add-mod'}
use Rattle.std.specs.Int.{int_rem_euclid}
use lib.Signed.{quot_z, rem_z}
use mir.Syntax.{w128}
use mir.Val.{SFits}
use Rattle.number_theory.specs.Division.{floor_div, floor_mod}
use Rattle.number_theory.specs.Residue.{residue}
use Rattle.number_theory.proofs.ResidueLemmas.{residue-below}
use Rattle.source_meaning.specs.Words.{word_of}
use Rattle.source_meaning.proofs.ValueForms.{is_word_of}

abbrev pub Above : Type 0
Above = (x : ℤ) (n : ℕ) → floor_mod x (pos (suc n)) ≡ pos (residue x (suc n))

abbrev pub Below : Type 0
Below = (x : ℤ) (n : ℕ) → floor_mod x (negsuc n) ≡ neg_ℤ (pos (residue (neg_ℤ x) (suc n)))

-- ---- a number above zero by one below zero
quotient_le : (a b : ℕ) → a / suc b ≤ a
quotient_le a b = grind (arith, div-add-mod' a (suc b))

down_quotient : (x y : ℤ) → pos 0 <ℤ x → y <ℤ pos 0 → quot_z (x -ℤ pos 1) y -ℤ pos 1 ≡ floor_div x y
down_quotient (pos zero) y h k = absurd (omega (arith, ints))
down_quotient (negsuc a) y h k = absurd (omega (arith, ints))
down_quotient (pos (suc a)) (pos b) h k = absurd (omega (arith, ints))
down_quotient (pos (suc a)) (negsuc b) h k =
    let e : pos (suc a) -ℤ pos 1 ≡ pos a = omega (arith, ints) in
    let step : neg_ℤ (pos (a / suc b)) -ℤ pos 1 ≡ negsuc (a / suc b) = omega (arith, ints) in
    ap (λ z. quot_z z (negsuc b) -ℤ pos 1) e ∙ step

quotient_between : (x y : ℤ) → pos 0 <ℤ x → y <ℤ pos 0 → (neg_ℤ x <ℤ quot_z (x -ℤ pos 1) y) × (quot_z (x -ℤ pos 1) y ≤ℤ pos 0)
quotient_between (pos zero) y h k = absurd (omega (arith, ints))
quotient_between (negsuc a) y h k = absurd (omega (arith, ints))
quotient_between (pos (suc a)) (pos b) h k = absurd (omega (arith, ints))
quotient_between (pos (suc a)) (negsuc b) h k =
    let e : pos a ≡ pos (suc a) -ℤ pos 1 = omega (arith, ints) in
    let l : a / suc b ≤ a = quotient_le a b in
    let low : neg_ℤ (pos (suc a)) <ℤ neg_ℤ (pos (a / suc b)) = omega (arith, ints) in
    let high : neg_ℤ (pos (a / suc b)) ≤ℤ pos 0 = omega (arith, ints) in
    subst (λ z. (neg_ℤ (pos (suc a)) <ℤ quot_z z (negsuc b)) × (quot_z z (negsuc b) ≤ℤ pos 0)) e (low, high)

pub down_word : (x y : ℤ) → SFits w128 x → SFits w128 y → pos 0 <ℤ x → y <ℤ pos 0
    → Some (to_z w128 (of_z w128 (to_z w128 (of_z w128 (quot_z (to_z w128 (of_z w128 (to_z w128 (of_z w128 x) -ℤ pos 1))) (to_z w128 (of_z w128 y)))) -ℤ pos 1))) ≡ word_of (floor_div x y)
down_word x y fx fy h k =
    let b = quotient_between x y h k in
    let low : neg_ℤ x <ℤ quot_z (x -ℤ pos 1) y = b.0 in
    let high : quot_z (x -ℤ pos 1) y ≤ℤ pos 0 = b.1 in
    let f1 : SFits w128 (x -ℤ pos 1) = omega (arith, ints) in
    let f2 : SFits w128 (quot_z (x -ℤ pos 1) y) = omega (arith, ints) in
    let f3 : SFits w128 (quot_z (x -ℤ pos 1) y -ℤ pos 1) = omega (arith, ints) in
    let f4 : SFits w128 (floor_div x y) = subst (λ z. SFits w128 z) (down_quotient x y h k) f3 in
    rw (to_z-of_z w128 x fx, to_z-of_z w128 y fy, to_z-of_z w128 (x -ℤ pos 1) f1, to_z-of_z w128 (quot_z (x -ℤ pos 1) y) f2, to_z-of_z w128 (quot_z (x -ℤ pos 1) y -ℤ pos 1) f3)
    (ap (λ z. Some z) (down_quotient x y h k) ∙ sym (ap (λ t. if t then Some (floor_div x y) else None) (is_word_of (floor_div x y) f4)))

down_rest : (x y : ℤ) → Below → pos 0 <ℤ x → y <ℤ pos 0 → (y +ℤ pos 1) +ℤ rem_z (x -ℤ pos 1) y ≡ floor_mod x y
down_rest (pos zero) y below h k = absurd (omega (arith, ints))
down_rest (negsuc a) y below h k = absurd (omega (arith, ints))
down_rest (pos (suc a)) (pos b) below h k = absurd (omega (arith, ints))
down_rest (pos (suc a)) (negsuc b) below h k =
    let e : pos (suc a) -ℤ pos 1 ≡ pos a = omega (arith, ints) in
    let positive : 0 < suc b = omega arith in
    let l : a % suc b < suc b = mod-lt a positive in
    let step : (negsuc b +ℤ pos 1) +ℤ pos (a % suc b) ≡ neg_ℤ (pos (suc b - 1 - a % suc b)) = omega (arith, ints) in
    ap (λ z. (negsuc b +ℤ pos 1) +ℤ rem_z z (negsuc b)) e ∙ step ∙ sym (below (pos (suc a)) b)

rest_between : (x y : ℤ) → pos 0 <ℤ x → y <ℤ pos 0 → (pos 0 ≤ℤ rem_z (x -ℤ pos 1) y) × (rem_z (x -ℤ pos 1) y <ℤ neg_ℤ y) × (rem_z (x -ℤ pos 1) y <ℤ x)
rest_between (pos zero) y h k = absurd (omega (arith, ints))
rest_between (negsuc a) y h k = absurd (omega (arith, ints))
rest_between (pos (suc a)) (pos b) h k = absurd (omega (arith, ints))
rest_between (pos (suc a)) (negsuc b) h k =
    let e : pos a ≡ pos (suc a) -ℤ pos 1 = omega (arith, ints) in
    let positive : 0 < suc b = omega arith in
    let l : a % suc b < suc b = mod-lt a positive in
    let m : a % suc b ≤ a = mod-le a (suc b) in
    let low : pos 0 ≤ℤ pos (a % suc b) = omega (arith, ints) in
    let high : pos (a % suc b) <ℤ neg_ℤ (negsuc b) = omega (arith, ints) in
    let less : pos (a % suc b) <ℤ pos (suc a) = omega (arith, ints) in
    subst (λ z. (pos 0 ≤ℤ rem_z z (negsuc b)) × (rem_z z (negsuc b) <ℤ neg_ℤ (negsuc b)) × (rem_z z (negsuc b) <ℤ pos (suc a))) e (low, high, less)

pub down_rest_word : (x y : ℤ) → Below → SFits w128 x → SFits w128 y → pos 0 <ℤ x → y <ℤ pos 0
    → to_z w128 (of_z w128 (to_z w128 (of_z w128 (to_z w128 (of_z w128 y) +ℤ pos 1)) +ℤ to_z w128 (of_z w128 (rem_z (to_z w128 (of_z w128 (to_z w128 (of_z w128 x) -ℤ pos 1))) (to_z w128 (of_z w128 y)))))) ≡ floor_mod x y
down_rest_word x y below fx fy h k =
    let b = rest_between x y h k in
    let low : pos 0 ≤ℤ rem_z (x -ℤ pos 1) y = b.0 in
    let high : rem_z (x -ℤ pos 1) y <ℤ neg_ℤ y = b.1 in
    let less : rem_z (x -ℤ pos 1) y <ℤ x = b.2 in
    let f1 : SFits w128 (x -ℤ pos 1) = omega (arith, ints) in
    let f2 : SFits w128 (y +ℤ pos 1) = omega (arith, ints) in
    let f3 : SFits w128 (rem_z (x -ℤ pos 1) y) = omega (arith, ints) in
    let f4 : SFits w128 ((y +ℤ pos 1) +ℤ rem_z (x -ℤ pos 1) y) = omega (arith, ints) in
    rw (to_z-of_z w128 x fx, to_z-of_z w128 y fy, to_z-of_z w128 (x -ℤ pos 1) f1, to_z-of_z w128 (y +ℤ pos 1) f2, to_z-of_z w128 (rem_z (x -ℤ pos 1) y) f3, to_z-of_z w128 ((y +ℤ pos 1) +ℤ rem_z (x -ℤ pos 1) y) f4)
    (down_rest x y below h k)

-- ---- by a number above zero
euclid_rest : (x : ℤ) (m : ℕ) → int_rem_euclid x (pos m) ≡ pos (residue x m)
euclid_rest (pos n) m = refl
euclid_rest (negsuc n) m = refl

pub up_rest : (x y : ℤ) → Above → pos 0 <ℤ y → int_rem_euclid x y ≡ floor_mod x y
up_rest x (pos zero) above h = absurd (omega (arith, ints))
up_rest x (negsuc n) above h = absurd (omega (arith, ints))
up_rest x (pos (suc n)) above h = euclid_rest x (suc n) ∙ sym (above x n)

-- ---- a number that is zero or below, by one below zero
pub rest_of_minus_one : (x y : ℤ) → Below → y ≡ negsuc 0 → pos 0 ≡ floor_mod x y
rest_of_minus_one x y below h =
    let l : residue (neg_ℤ x) 1 < 1 = residue-below (neg_ℤ x) 1 (omega arith) in
    let none : pos 0 ≡ neg_ℤ (pos (residue (neg_ℤ x) 1)) = omega (arith, ints) in
    none ∙ sym (below x 0) ∙ ap (λ z. floor_mod x z) (sym h)

pub low_rest : (x y : ℤ) → Below → x ≤ℤ pos 0 → y <ℤ pos 0 → rem_z x y ≡ floor_mod x y
low_rest (pos (suc a)) y below h k = absurd (omega (arith, ints))
low_rest x (pos b) below h k = absurd (omega (arith, ints))
low_rest (pos zero) (negsuc b) below h k =
    let m : 0 % suc b ≤ 0 = mod-le 0 (suc b) in
    let e : pos (0 % suc b) ≡ neg_ℤ (pos (0 % suc b)) = omega (arith, ints) in
    e ∙ sym (below (pos 0) b)
low_rest (negsuc a) (negsuc b) below h k = sym (below (negsuc a) b)
