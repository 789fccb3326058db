-- Products of integers under the order, and in intervals.
use Rattle.std.proofs.Common.{ℕ, suc, arith, ℤ, pos, negsuc, ◌*ℤ◌, ◌≤ℤ◌}
use Rattle.std.proofs.lemmas.Int.{ints, clamps}
use Rattle.std.proofs.Math.IntN.{*ℤ_comm}
use Rattle.std.proofs.Math.Nat.{mul-le-mul_right}
use borrow.Author.Differences.{le_out}
use Rattle.std.specs.Int.{int_min, int_max}
use Rattle.number_theory.specs.Interval.{least_product, greatest_product}

-- times a number that is not negative keeps an order
pub ≤ℤ-mul_pos : (a b : ℤ) (n : ℕ) → a ≤ℤ b → (a *ℤ pos n) ≤ℤ (b *ℤ pos n)
≤ℤ-mul_pos a b n h = omega (arith, ints, mul-le-mul_right n (le_out a b h))

-- times a negative number turns it round
pub ≤ℤ-mul_negsuc : (a b : ℤ) (n : ℕ) → a ≤ℤ b → (b *ℤ negsuc n) ≤ℤ (a *ℤ negsuc n)
≤ℤ-mul_negsuc a b n h = omega (arith, ints, mul-le-mul_right (suc n) (le_out a b h))

-- x from l to h: a bound on the products of y with both ends is one on its product with x
low_by_left : (p l h x y : ℤ) → l ≤ℤ x → x ≤ℤ h → p ≤ℤ (l *ℤ y) → p ≤ℤ (h *ℤ y) → p ≤ℤ (x *ℤ y)
low_by_left p l h x (pos n) low high at_l at_h = omega (arith, ints, ≤ℤ-mul_pos l x n low)
low_by_left p l h x (negsuc n) low high at_l at_h = omega (arith, ints, ≤ℤ-mul_negsuc x h n high)

high_by_left : (p l h x y : ℤ) → l ≤ℤ x → x ≤ℤ h → (l *ℤ y) ≤ℤ p → (h *ℤ y) ≤ℤ p → (x *ℤ y) ≤ℤ p
high_by_left p l h x (pos n) low high at_l at_h = omega (arith, ints, ≤ℤ-mul_pos x h n high)
high_by_left p l h x (negsuc n) low high at_l at_h = omega (arith, ints, ≤ℤ-mul_negsuc l x n low)

low_by_right : (p l h x y : ℤ) → l ≤ℤ y → y ≤ℤ h → p ≤ℤ (x *ℤ l) → p ≤ℤ (x *ℤ h) → p ≤ℤ (x *ℤ y)
low_by_right p l h x y low high at_l at_h =
    rw (*ℤ_comm x y) (low_by_left p l h y x low high (rw (*ℤ_comm l x) at_l) (rw (*ℤ_comm h x) at_h))

high_by_right : (p l h x y : ℤ) → l ≤ℤ y → y ≤ℤ h → (x *ℤ l) ≤ℤ p → (x *ℤ h) ≤ℤ p → (x *ℤ y) ≤ℤ p
high_by_right p l h x y low high at_l at_h =
    rw (*ℤ_comm x y) (high_by_left p l h y x low high (rw (*ℤ_comm l x) at_l) (rw (*ℤ_comm h x) at_h))

-- what is at most each product of two ends is at most each product in the two intervals
pub product_low : (p l1 h1 l2 h2 x y : ℤ) → l1 ≤ℤ x → x ≤ℤ h1 → l2 ≤ℤ y → y ≤ℤ h2 → p ≤ℤ (l1 *ℤ l2) → p ≤ℤ (l1 *ℤ h2) → p ≤ℤ (h1 *ℤ l2) → p ≤ℤ (h1 *ℤ h2) → p ≤ℤ (x *ℤ y)
product_low p l1 h1 l2 h2 x y xl xh yl yh ll lh hl hh =
    low_by_left p l1 h1 x y xl xh (low_by_right p l2 h2 l1 y yl yh ll lh) (low_by_right p l2 h2 h1 y yl yh hl hh)

-- and what is at least each, at least
pub product_high : (p l1 h1 l2 h2 x y : ℤ) → l1 ≤ℤ x → x ≤ℤ h1 → l2 ≤ℤ y → y ≤ℤ h2 → (l1 *ℤ l2) ≤ℤ p → (l1 *ℤ h2) ≤ℤ p → (h1 *ℤ l2) ≤ℤ p → (h1 *ℤ h2) ≤ℤ p → (x *ℤ y) ≤ℤ p
product_high p l1 h1 l2 h2 x y xl xh yl yh ll lh hl hh =
    high_by_left p l1 h1 x y xl xh (high_by_right p l2 h2 l1 y yl yh ll lh) (high_by_right p l2 h2 h1 y yl yh hl hh)

-- int_min and int_max of four
int_min_four : (a b c d : ℤ) → (int_min (int_min a b) (int_min c d) ≤ℤ a) × (int_min (int_min a b) (int_min c d) ≤ℤ b) × (int_min (int_min a b) (int_min c d) ≤ℤ c) × (int_min (int_min a b) (int_min c d) ≤ℤ d)
int_min_four a b c d = (omega (arith, ints, clamps), omega (arith, ints, clamps), omega (arith, ints, clamps), omega (arith, ints, clamps))

int_max_four : (a b c d : ℤ) → (a ≤ℤ int_max (int_max a b) (int_max c d)) × (b ≤ℤ int_max (int_max a b) (int_max c d)) × (c ≤ℤ int_max (int_max a b) (int_max c d)) × (d ≤ℤ int_max (int_max a b) (int_max c d))
int_max_four a b c d = (omega (arith, ints, clamps), omega (arith, ints, clamps), omega (arith, ints, clamps), omega (arith, ints, clamps))

-- a product in two intervals lies between the least and the greatest product of their ends
pub product_between : (l1 h1 l2 h2 x y : ℤ) → l1 ≤ℤ x → x ≤ℤ h1 → l2 ≤ℤ y → y ≤ℤ h2 → (least_product l1 h1 l2 h2 ≤ℤ (x *ℤ y)) × ((x *ℤ y) ≤ℤ greatest_product l1 h1 l2 h2)
product_between l1 h1 l2 h2 x y xl xh yl yh =
    let least = int_min_four (l1 *ℤ l2) (l1 *ℤ h2) (h1 *ℤ l2) (h1 *ℤ h2) in
    let greatest = int_max_four (l1 *ℤ l2) (l1 *ℤ h2) (h1 *ℤ l2) (h1 *ℤ h2) in (
      product_low _ l1 h1 l2 h2 x y xl xh yl yh least.0 least.1 least.2 least.3,
      product_high _ l1 h1 l2 h2 x y xl xh yl yh greatest.0 greatest.1 greatest.2 greatest.3,
    )
