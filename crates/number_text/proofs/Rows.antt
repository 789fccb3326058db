-- Worked rows: what words of an input are held as, and where an input is refused.
use Rattle.std.specs.Prelude.{◌≡◌, refl, ℕ, ℤ, pos, negsuc, ◌-◌, ◌^◌, List, codes}
use Rattle.std.proofs.Common.{inl, inr, arith}
use Rattle.number_text.specs.Input.{IsFirstOther, held_integer, input_words}

-- the integer that a text which is one word is held as
abbrev held : List ℕ → ℤ
held bytes = held_integer (record { place = 0; bytes = bytes })

zero : held (codes "-0") ≡ pos 0
zero = refl

leading_zeros : held (codes "-000000000000000000000000000000000000000000000097") ≡ negsuc 96
leading_zeros = refl

greatest : held (codes "170141183460469231731687303715884105727") ≡ pos (2 ^ 127 - 1)
greatest = refl

one_above : held (codes "170141183460469231731687303715884105728") ≡ pos (2 ^ 127 - 1)
one_above = refl

least : held (codes "-170141183460469231731687303715884105728") ≡ negsuc (2 ^ 127 - 1)
least = refl

one_below : held (codes "-170141183460469231731687303715884105729") ≡ negsuc (2 ^ 127 - 1)
one_below = refl

sixty_nines : held (codes "999999999999999999999999999999999999999999999999999999999999") ≡ pos (2 ^ 127 - 1)
sixty_nines = refl

-- `7` and then `12x`, whose first byte is at place 2
second_word : IsFirstOther (input_words (codes "7 12x")) 2
second_word = inl ((omega arith, (omega arith, tt)), inr (λ is. let letter = is.1.1.1.0 in omega (arith, letter), refl))
