-- Intervals of integers, and what operations make of them.
use Rattle.std.specs.Prelude.{ℤ, neg_ℤ, ◌+ℤ◌, ◌-ℤ◌, ◌*ℤ◌, ◌&&◌, Bool, int_le}
use Rattle.std.specs.Int.{int_min, int_max}
use Rattle.thin_source.specs.declared.interval.Interval.{Interval}

-- one integer alone
abbrev pub point : ℤ → Interval
point z = record { low = z; high = z }

-- the integers from -bound to bound
abbrev pub around_zero : ℤ → Interval
around_zero bound = record { low = neg_ℤ bound; high = bound }

-- the sums of an integer of each
abbrev pub interval_sum : Interval → Interval → Interval
interval_sum i j = record { low = i.low +ℤ j.low; high = i.high +ℤ j.high }

-- the differences
abbrev pub interval_difference : Interval → Interval → Interval
interval_difference i j = record { low = i.low -ℤ j.high; high = i.high -ℤ j.low }

abbrev pub least : ℤ → ℤ → ℤ → ℤ → ℤ
least a b c d = int_min (int_min a b) (int_min c d)

abbrev pub greatest : ℤ → ℤ → ℤ → ℤ → ℤ
greatest a b c d = int_max (int_max a b) (int_max c d)

-- from the least to the greatest of the four products of ends
unfoldable pub interval_product : Interval → Interval → Interval
interval_product i j = record {
  low = least (i.low *ℤ j.low) (i.low *ℤ j.high) (i.high *ℤ j.low) (i.high *ℤ j.high);
  high = greatest (i.low *ℤ j.low) (i.low *ℤ j.high) (i.high *ℤ j.low) (i.high *ℤ j.high);
}

-- the inner interval has an integer, and each of them lies in the outer one
abbrev pub is_within : Interval → Interval → Bool
is_within inner outer = int_le outer.low inner.low && (int_le inner.low inner.high && int_le inner.high outer.high)
