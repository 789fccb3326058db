-- Worked rows of the sets, computed from the definitions; the numbers were found by Python's `%`, `//` and `pow`.
use Rattle.std.specs.Prelude.{◌≡◌, [], ◌∷◌, codes, Some, None, pos, negsuc, refl}
use Rattle.number_theory.specs.Coprime.{inverse_of, inverse_below}
use Rattle.number_theory.specs.Residue.{quotient, residue}
use Rattle.moduli_sets.specs.declared.set_name.SetName.TheVariants.{Pocket, Desk, Hall}
use Rattle.moduli_sets.specs.Name.{set_named, set_of_name}
use Rattle.moduli_sets.specs.Set.{range_bound}
use Rattle.moduli_sets.specs.Vector.{vector_of}

-- the integers of the sets
bound_of_pocket : range_bound (set_of_name Pocket) ≡ 97
bound_of_pocket = refl

bound_of_desk : range_bound (set_of_name Desk) ≡ 451727098179
bound_of_desk = refl

bound_of_hall : range_bound (set_of_name Hall) ≡ 18754376393575156082078
bound_of_hall = refl

-- a name is a whole word, in small letters
word_of_desk : set_named (codes "desk") ≡ Some Desk
word_of_desk = refl

large_letter : set_named (codes "Desk") ≡ None
large_letter = refl

prefix_of_a_name : set_named (codes "hal") ≡ None
prefix_of_a_name = refl

-- residues are those of the floor quotient: -97 is -8 * 13 + 7
residue_of_a_negative : residue (negsuc 96) 13 ≡ 7
residue_of_a_negative = refl

quotient_of_a_negative : quotient (negsuc 96) 13 ≡ negsuc 7
quotient_of_a_negative = refl

vector_of_42 : vector_of (set_of_name Pocket).moduli (pos 42) ≡ 3 ∷ 12 ∷ 10 ∷ 8 ∷ 4 ∷ []
vector_of_42 = refl

vector_of_the_least : vector_of (set_of_name Pocket).moduli (negsuc 96) ≡ 7 ∷ 8 ∷ 15 ∷ 5 ∷ 17 ∷ []
vector_of_the_least = refl

-- 13 * 7 is 91, one more than 6 * 15
inverse_of_13 : inverse_of 13 15 ≡ 7
unfolding inverse_below
inverse_of_13 = refl

-- 3 and 15 have a divisor in common
no_inverse : inverse_of 3 15 ≡ 0
unfolding inverse_below
no_inverse = refl
