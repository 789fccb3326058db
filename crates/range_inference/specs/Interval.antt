-- The interval of each node of an expression, by the declared ranges of names. All values of the node lie in it.
use Rattle.std.specs.Prelude.{ℕ, ℤ, List, pos, neg_ℤ, ◌+ℤ◌, ◌-ℤ◌, Bool, not, ◌&&◌, if◌then◌else◌, int_le, unsigned_abs}
use Rattle.std.specs.Ordering.{int_eq}
use Rattle.std.specs.Int.{int_min, int_max}
use Rattle.number_theory.specs.Division.{floor_div}
use Rattle.number_theory.specs.Interval.{least_product, greatest_product}
use Rattle.source_tree.specs.declared.name.Range.{Range}
use Rattle.source_tree.specs.declared.expression.Operator.{Operator}
use Rattle.source_tree.specs.declared.expression.Operator.TheVariants.{Add, Sub, Mul, Div, Mod}
use Rattle.source_tree.specs.declared.expression.Expr.{Expr, fold-Expr}
use Rattle.source_tree.specs.declared.expression.Expr.TheOpen.{Expr-F, Number, Name, Element, Neg, Binary}
use Rattle.range_inference.specs.declared.interval.Interval.{Interval}

abbrev pub from_to : ℤ → ℤ → Interval
from_to low high = record { low = low; high = high }

abbrev pub contains : Interval → ℤ → Bool
contains i x = int_le i.low x && int_le x i.high

-- a number from -bound to bound
abbrev pub is_bounded : ℤ → ℤ → Bool
is_bounded bound x = int_le (neg_ℤ bound) x && int_le x bound

-- both ends lie from -bound to bound
abbrev pub is_within_bound : ℤ → Interval → Bool
is_within_bound bound i = is_bounded bound i.low && is_bounded bound i.high

-- of a declared range
abbrev pub interval_of_range : Range → Interval
interval_of_range range = from_to range.low range.high

-- ---- operators, from the intervals of their operands
-- the greater of the absolute values of both ends
abbrev pub size_of : Interval → ℤ
size_of a = int_max (pos (unsigned_abs a.low)) (pos (unsigned_abs a.high))

-- it is one number other than 0
abbrev pub is_one_divisor : Interval → Bool
is_one_divisor b = int_eq b.low b.high && not (int_eq b.low (pos 0))

abbrev pub negated : Interval → Interval
negated a = from_to (neg_ℤ a.high) (neg_ℤ a.low)

abbrev pub interval_by : Operator → Interval → Interval → Interval
interval_by Add a b = from_to (a.low +ℤ b.low) (a.high +ℤ b.high)
interval_by Sub a b = from_to (a.low -ℤ b.high) (a.high -ℤ b.low)
interval_by Mul a b = from_to (least_product a.low a.high b.low b.high) (greatest_product a.low a.high b.low b.high)
interval_by Div a b =
    if is_one_divisor b
    then from_to (int_min (floor_div a.low b.low) (floor_div a.high b.low)) (int_max (floor_div a.low b.low) (floor_div a.high b.low))
    else from_to (neg_ℤ (size_of a)) (size_of a)
interval_by Mod a b = from_to (int_min (pos 0) (b.low +ℤ pos 1)) (int_max (pos 0) (b.high -ℤ pos 1))

-- ---- nodes, from the intervals of their operands or their index
-- the declared range of each name
abbrev pub Ranges : Type 0
Ranges = List ℕ → Range

abbrev pub interval_of_node : Expr-F (Ranges → Interval) → Ranges → Interval
interval_of_node (Number value line) ranges = from_to value value
interval_of_node (Name name) ranges = interval_of_range (ranges name.bytes)
interval_of_node (Element name index) ranges = interval_of_range (ranges name.bytes)
interval_of_node (Neg operand line) ranges = negated (operand ranges)
interval_of_node (Binary left operator right line) ranges = interval_by operator (left ranges) (right ranges)

abbrev pub interval_of : Expr → Ranges → Interval
interval_of e = fold-Expr (Ranges → Interval) interval_of_node e
