-- Worked rows of mixed-radix digits, computed from the definitions; the numbers were found by Python's `%` and `//`.
use Rattle.std.specs.Prelude.{◌≡◌, [], ◌∷◌, refl}
use Rattle.moduli_sets.specs.declared.set_name.SetName.TheVariants.{Pocket, Desk}
use Rattle.moduli_sets.specs.Name.{set_of_name}
use Rattle.mixed_radix.specs.Chosen.{entries_at}
use Rattle.mixed_radix.specs.Digits.{digits, digits_value}

-- 42 is 3 + 3 * 13
digits_of_42 : digits (set_of_name Pocket).moduli 42 ≡ 3 ∷ 3 ∷ 0 ∷ 0 ∷ 0 ∷ []
digits_of_42 = refl

-- the number of all residues of -97: the product of all moduli, less 97
digits_of_the_least : digits (set_of_name Pocket).moduli 1007663 ≡ 7 ∷ 7 ∷ 15 ∷ 16 ∷ 18 ∷ []
digits_of_the_least = refl

value_of_the_least : digits_value (set_of_name Pocket).moduli (7 ∷ 7 ∷ 15 ∷ 16 ∷ 18 ∷ []) ≡ 1007663
value_of_the_least = refl

-- channels 1, 2 and 4 of the five: 4463 is the product of their moduli, 15 * 16 * 19, less 97
three_channels : entries_at (1 ∷ 2 ∷ 4 ∷ []) (set_of_name Pocket).moduli ≡ 15 ∷ 16 ∷ 19 ∷ []
three_channels = refl

digits_of_three_channels : digits (15 ∷ 16 ∷ 19 ∷ []) 4463 ≡ 8 ∷ 9 ∷ 18 ∷ []
digits_of_three_channels = refl

-- the number of all residues of desk's least integer
value_of_the_least_of_desk : digits_value (set_of_name Desk).moduli (120 ∷ 120 ∷ 123 ∷ 125 ∷ 126 ∷ 254 ∷ 255 ∷ 256 ∷ []) ≡ 15157214462419990461
value_of_the_least_of_desk = refl
