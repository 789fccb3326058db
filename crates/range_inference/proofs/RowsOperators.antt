-- Worked rows of the intervals of operators, and of what lies in the range of each set.
use Rattle.std.specs.Prelude.{◌≡◌, refl, pos, neg_ℤ, true, false}
use Rattle.moduli_sets.specs.declared.set_name.SetName.TheVariants.{Pocket, Desk, Hall}
use Rattle.source_tree.specs.declared.expression.Operator.TheVariants.{Add, Sub, Mul, Div, Mod}
use Rattle.range_inference.specs.Bound.{bound_of}
use Rattle.range_inference.specs.Interval.{from_to, is_within_bound, negated, interval_by}

-- ---- ends
pub negation : negated (from_to (neg_ℤ (pos 2)) (pos 7)) ≡ from_to (neg_ℤ (pos 7)) (pos 2)
negation = refl

pub sum : interval_by Add (from_to (neg_ℤ (pos 2)) (pos 7)) (from_to (pos 3) (pos 5)) ≡ from_to (pos 1) (pos 12)
sum = refl

pub difference : interval_by Sub (from_to (neg_ℤ (pos 2)) (pos 7)) (from_to (pos 3) (pos 5)) ≡ from_to (neg_ℤ (pos 7)) (pos 4)
difference = refl

-- ---- products: each corner is the least or the greatest once
pub product_positive : interval_by Mul (from_to (pos 2) (pos 3)) (from_to (pos 5) (pos 7)) ≡ from_to (pos 10) (pos 21)
product_positive = refl

pub product_negative : interval_by Mul (from_to (neg_ℤ (pos 3)) (neg_ℤ (pos 2))) (from_to (neg_ℤ (pos 7)) (neg_ℤ (pos 5))) ≡ from_to (pos 10) (pos 21)
product_negative = refl

pub product_left_mixed : interval_by Mul (from_to (neg_ℤ (pos 2)) (pos 3)) (from_to (neg_ℤ (pos 7)) (neg_ℤ (pos 5))) ≡ from_to (neg_ℤ (pos 21)) (pos 14)
product_left_mixed = refl

pub product_both_mixed : interval_by Mul (from_to (neg_ℤ (pos 2)) (pos 3)) (from_to (neg_ℤ (pos 5)) (pos 7)) ≡ from_to (neg_ℤ (pos 15)) (pos 21)
product_both_mixed = refl

-- ---- quotients
pub quotient_by_one_number : interval_by Div (from_to (neg_ℤ (pos 7)) (pos 9)) (from_to (pos 2) (pos 2)) ≡ from_to (neg_ℤ (pos 4)) (pos 4)
quotient_by_one_number = refl

pub quotient_by_one_below_zero : interval_by Div (from_to (neg_ℤ (pos 7)) (pos 9)) (from_to (neg_ℤ (pos 2)) (neg_ℤ (pos 2))) ≡ from_to (neg_ℤ (pos 5)) (pos 3)
quotient_by_one_below_zero = refl

pub quotient_with_zero_inside : interval_by Div (from_to (neg_ℤ (pos 7)) (pos 9)) (from_to (neg_ℤ (pos 1)) (pos 2)) ≡ from_to (neg_ℤ (pos 9)) (pos 9)
quotient_with_zero_inside = refl

pub quotient_by_zero_alone : interval_by Div (from_to (neg_ℤ (pos 11)) (pos 9)) (from_to (pos 0) (pos 0)) ≡ from_to (neg_ℤ (pos 11)) (pos 11)
quotient_by_zero_alone = refl

pub quotient_by_many : interval_by Div (from_to (pos 4) (pos 9)) (from_to (pos 2) (pos 3)) ≡ from_to (neg_ℤ (pos 9)) (pos 9)
quotient_by_many = refl

-- ---- remainders have the sign of the right side, whatever the left is
pub remainder_positive : interval_by Mod (from_to (neg_ℤ (pos 50)) (pos 50)) (from_to (pos 3) (pos 5)) ≡ from_to (pos 0) (pos 4)
remainder_positive = refl

pub remainder_negative : interval_by Mod (from_to (neg_ℤ (pos 50)) (pos 50)) (from_to (neg_ℤ (pos 5)) (neg_ℤ (pos 3))) ≡ from_to (neg_ℤ (pos 4)) (pos 0)
remainder_negative = refl

pub remainder_mixed : interval_by Mod (from_to (pos 1) (pos 2)) (from_to (neg_ℤ (pos 5)) (pos 7)) ≡ from_to (neg_ℤ (pos 4)) (pos 6)
remainder_mixed = refl

pub remainder_by_zero_alone : interval_by Mod (from_to (pos 1) (pos 2)) (from_to (pos 0) (pos 0)) ≡ from_to (pos 0) (pos 0)
remainder_by_zero_alone = refl

-- ---- ranges of the sets
pub pocket : bound_of Pocket ≡ pos 97
pocket = refl

pub desk : bound_of Desk ≡ pos 451727098179
desk = refl

pub hall : bound_of Hall ≡ pos 18754376393575156082078
hall = refl

pub pocket_whole : is_within_bound (bound_of Pocket) (from_to (neg_ℤ (pos 97)) (pos 97)) ≡ true
pocket_whole = refl

pub pocket_one_more : is_within_bound (bound_of Pocket) (from_to (pos 0) (pos 98)) ≡ false
pocket_one_more = refl

pub pocket_one_less : is_within_bound (bound_of Pocket) (from_to (neg_ℤ (pos 98)) (pos 0)) ≡ false
pocket_one_less = refl

pub desk_whole : is_within_bound (bound_of Desk) (from_to (neg_ℤ (pos 451727098179)) (pos 451727098179)) ≡ true
desk_whole = refl

pub desk_one_more : is_within_bound (bound_of Desk) (from_to (pos 0) (pos 451727098180)) ≡ false
desk_one_more = refl

pub hall_whole : is_within_bound (bound_of Hall) (from_to (neg_ℤ (pos 18754376393575156082078)) (pos 18754376393575156082078)) ≡ true
hall_whole = refl

pub hall_one_more : is_within_bound (bound_of Hall) (from_to (pos 0) (pos 18754376393575156082079)) ≡ false
hall_one_more = refl

-- the square of the greatest integer of `hall` is no word of 128 bits, and too wide
pub hall_square : is_within_bound (bound_of Hall) (interval_by Mul (from_to (pos 0) (pos 18754376393575156082078)) (from_to (pos 0) (pos 18754376393575156082078))) ≡ false
hall_square = refl
