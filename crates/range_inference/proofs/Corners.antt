-- Products of the ends of two intervals, as words of the program.
use Rattle.std.proofs.Common.{◌≡◌, sym, ap, ◌∙◌, subst, arith, ℤ, ◌*ℤ◌, ◌≤ℤ◌, Option, None, FitsSigned, to_z, of_z}
use Rattle.std.specs.Prelude.{IfNone}
use Rattle.std.specs.Int.{w128, int_min, int_max}
use Rattle.std.proofs.lemmas.Int.{ints, clamps, to_z-of_z}
use Rattle.number_theory.specs.Interval.{least_product, greatest_product}
use Rattle.range_inference.specs.Interval.{from_to}
use Rattle.range_inference.specs.Operators.{FitsWord}
use Rattle.range_inference.specs.declared.interval.Interval.{Interval}

fits_between : (z low high : ℤ) → FitsWord (from_to low high) → low ≤ℤ z → z ≤ℤ high → FitsSigned w128 z
fits_between z low high f h k = let l = f.low in let u = f.high in omega (arith, ints)

pub corners_fit : (l1 h1 l2 h2 : ℤ) → FitsWord (from_to (least_product l1 h1 l2 h2) (greatest_product l1 h1 l2 h2))
    → FitsSigned w128 (l1 *ℤ l2) × FitsSigned w128 (l1 *ℤ h2) × FitsSigned w128 (h1 *ℤ l2) × FitsSigned w128 (h1 *ℤ h2)
corners_fit l1 h1 l2 h2 f = of (l1 *ℤ l2) (l1 *ℤ h2) (h1 *ℤ l2) (h1 *ℤ h2) f
  where
    of : (a b c d : ℤ) → FitsWord (from_to (int_min (int_min a b) (int_min c d)) (int_max (int_max a b) (int_max c d)))
        → FitsSigned w128 a × FitsSigned w128 b × FitsSigned w128 c × FitsSigned w128 d
    of a b c d f = (
      fits_between a _ _ f (omega (arith, ints, clamps)) (omega (arith, ints, clamps)),
      fits_between b _ _ f (omega (arith, ints, clamps)) (omega (arith, ints, clamps)),
      fits_between c _ _ f (omega (arith, ints, clamps)) (omega (arith, ints, clamps)),
      fits_between d _ _ f (omega (arith, ints, clamps)) (omega (arith, ints, clamps)),
    )

-- a product of two words of the program is refused only where it doesn't fit
refused : (x y : ℤ) → FitsSigned w128 x → FitsSigned w128 y → ¬ (FitsSigned w128 (to_z w128 (of_z w128 x) *ℤ to_z w128 (of_z w128 y))) → ¬ (FitsSigned w128 (x *ℤ y))
refused x y f g h k =
    h (subst (λ a. FitsSigned w128 (a *ℤ to_z w128 (of_z w128 y))) (sym (to_z-of_z w128 x f))
    (subst (λ b. FitsSigned w128 (x *ℤ b)) (sym (to_z-of_z w128 y g)) k))

-- there is no interval where one of the products that must fit is refused
pub corner_refused : (x y : ℤ) (r : Option Interval) (P : Type 0) → FitsSigned w128 x → FitsSigned w128 y → r ≡ None
    → ¬ (FitsSigned w128 (to_z w128 (of_z w128 x) *ℤ to_z w128 (of_z w128 y))) → (P → FitsSigned w128 (x *ℤ y)) → IfNone r (¬ P)
corner_refused x y r P f g e h fit = subst (λ o. IfNone o (¬ P)) (sym e) (λ p. refused x y f g h (fit p))

-- a product that fits is the product of the integers
pub product_is : (v x y : ℤ) → FitsSigned w128 x → FitsSigned w128 y
    → FitsSigned w128 (to_z w128 (of_z w128 x) *ℤ to_z w128 (of_z w128 y)) × (v ≡ to_z w128 (of_z w128 x) *ℤ to_z w128 (of_z w128 y))
    → to_z w128 (of_z w128 v) ≡ x *ℤ y
product_is v x y f g h =
    to_z-of_z w128 v (subst (λ z. FitsSigned w128 z) (sym h.1) h.0)
    ∙ h.1 ∙ ap (λ a. a *ℤ to_z w128 (of_z w128 y)) (to_z-of_z w128 x f) ∙ ap (λ b. x *ℤ b) (to_z-of_z w128 y g)

pub same_corners : (l1 h1 l2 h2 p q r s : ℤ) (f g i : Interval)
    → f ≡ from_to (int_min p q) (int_max p q) → g ≡ from_to (int_min r s) (int_max r s) → i ≡ from_to (int_min f.low g.low) (int_max f.high g.high)
    → p ≡ l1 *ℤ l2 → q ≡ l1 *ℤ h2 → r ≡ h1 *ℤ l2 → s ≡ h1 *ℤ h2
    → i ≡ from_to (least_product l1 h1 l2 h2) (greatest_product l1 h1 l2 h2)
same_corners l1 h1 l2 h2 p q r s f g i fe ge ie pe qe re se =
    ie
    ∙ ap (λ (v : Interval). from_to (int_min v.low g.low) (int_max v.high g.high)) (fe ∙ ap (λ z. from_to (int_min z q) (int_max z q)) pe ∙ ap (λ z. from_to (int_min (l1 *ℤ l2) z) (int_max (l1 *ℤ l2) z)) qe)
    ∙ ap (λ (v : Interval). from_to (int_min (int_min (l1 *ℤ l2) (l1 *ℤ h2)) v.low) (int_max (int_max (l1 *ℤ l2) (l1 *ℤ h2)) v.high))
    (ge ∙ ap (λ z. from_to (int_min z s) (int_max z s)) re ∙ ap (λ z. from_to (int_min (h1 *ℤ l2) z) (int_max (h1 *ℤ l2) z)) se)
