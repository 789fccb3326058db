-- Sums and differences of small integers, as words of the program.
use Rattle.std.proofs.Common.{◌≡◌, ap, ◌∙◌, arith, ℤ, pos, neg_ℤ, ◌^◌, ◌+ℤ◌, ◌-ℤ◌, ◌≤ℤ◌, ◌<ℤ◌, to_z, of_z}
use Rattle.std.specs.Int.{w128, int_min, int_max}
use Rattle.std.proofs.lemmas.Int.{ints, to_z-of_z}
use Rattle.range_inference.specs.Interval.{from_to}

pub same_ends : (x y v w : ℤ) → x ≡ v → y ≡ w → from_to x y ≡ from_to v w
same_ends x y v w h k = ap (λ z. from_to z y) h ∙ ap (λ z. from_to v z) k

pub around_ends : (x y v w : ℤ) → x ≡ v → y ≡ w
    → from_to (int_min (pos 0) x) (int_max (pos 0) y) ≡ from_to (int_min (pos 0) v) (int_max (pos 0) w)
around_ends x y v w h k =
    ap (λ z. from_to (int_min (pos 0) z) (int_max (pos 0) y)) h ∙ ap (λ z. from_to (int_min (pos 0) v) (int_max (pos 0) z)) k

word : (x : ℤ) → neg_ℤ (pos (2 ^ 127)) ≤ℤ x → x <ℤ pos (2 ^ 127) → to_z w128 (of_z w128 x) ≡ x
word x h k = to_z-of_z w128 x (omega (arith, ints))

module _ (x y : ℤ) (xl : neg_ℤ (pos (2 ^ 126)) <ℤ x) (xh : x <ℤ pos (2 ^ 126)) (yl : neg_ℤ (pos (2 ^ 126)) <ℤ y) (yh : y <ℤ pos (2 ^ 126)) where
  pub word_sum : to_z w128 (of_z w128 (to_z w128 (of_z w128 x) +ℤ to_z w128 (of_z w128 y))) ≡ x +ℤ y
  word_sum =
      ap (λ z. to_z w128 (of_z w128 (z +ℤ to_z w128 (of_z w128 y)))) (word x (omega (arith, ints)) (omega (arith, ints)))
      ∙ ap (λ z. to_z w128 (of_z w128 (x +ℤ z))) (word y (omega (arith, ints)) (omega (arith, ints)))
      ∙ word (x +ℤ y) (omega (arith, ints)) (omega (arith, ints))

  pub word_difference : to_z w128 (of_z w128 (to_z w128 (of_z w128 x) -ℤ to_z w128 (of_z w128 y))) ≡ x -ℤ y
  word_difference =
      ap (λ z. to_z w128 (of_z w128 (z -ℤ to_z w128 (of_z w128 y)))) (word x (omega (arith, ints)) (omega (arith, ints)))
      ∙ ap (λ z. to_z w128 (of_z w128 (x -ℤ z))) (word y (omega (arith, ints)) (omega (arith, ints)))
      ∙ word (x -ℤ y) (omega (arith, ints)) (omega (arith, ints))

module _ (x : ℤ) (xl : neg_ℤ (pos (2 ^ 126)) <ℤ x) (xh : x <ℤ pos (2 ^ 126)) where
  pub plus_one : to_z w128 (of_z w128 (to_z w128 (of_z w128 x) +ℤ pos 1)) ≡ x +ℤ pos 1
  plus_one =
      ap (λ z. to_z w128 (of_z w128 (z +ℤ pos 1))) (word x (omega (arith, ints)) (omega (arith, ints)))
      ∙ word (x +ℤ pos 1) (omega (arith, ints)) (omega (arith, ints))

  pub minus_one : to_z w128 (of_z w128 (to_z w128 (of_z w128 x) -ℤ pos 1)) ≡ x -ℤ pos 1
  minus_one =
      ap (λ z. to_z w128 (of_z w128 (z -ℤ pos 1))) (word x (omega (arith, ints)) (omega (arith, ints)))
      ∙ word (x -ℤ pos 1) (omega (arith, ints)) (omega (arith, ints))
