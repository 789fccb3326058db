-- The moduli at the ends of what a parameter may be, and past them.
use Rattle.std.specs.Prelude.{◌≡◌, refl, List, [], ◌∷◌, map}
use Rattle.channel_alu.specs.Modulus.{plain_modulus, ones_modulus, power_modulus, plus_modulus}

plain_moduli : map plain_modulus (0 ∷ 1 ∷ 2 ∷ 13 ∷ 65535 ∷ 65536 ∷ []) ≡ 2 ∷ 2 ∷ 2 ∷ 13 ∷ 65535 ∷ 2 ∷ []
plain_moduli = refl

ones_moduli : map ones_modulus (0 ∷ 1 ∷ 2 ∷ 4 ∷ 16 ∷ 17 ∷ []) ≡ 3 ∷ 3 ∷ 3 ∷ 15 ∷ 65535 ∷ 3 ∷ []
ones_moduli = refl

power_moduli : map power_modulus (0 ∷ 1 ∷ 4 ∷ 15 ∷ 16 ∷ []) ≡ 2 ∷ 2 ∷ 16 ∷ 32768 ∷ 2 ∷ []
power_moduli = refl

plus_moduli : map plus_modulus (0 ∷ 1 ∷ 4 ∷ 15 ∷ 16 ∷ []) ≡ 3 ∷ 3 ∷ 17 ∷ 32769 ∷ 3 ∷ []
plus_moduli = refl
