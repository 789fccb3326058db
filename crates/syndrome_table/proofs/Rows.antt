-- Worked rows of cases and their triples, computed by hand.
use Rattle.std.specs.Prelude.{◌≡◌, ◌+◌, ◌*◌, true, [], ◌∷◌, pos, negsuc, refl}
use Rattle.std.proofs.Common.{arith}
use Rattle.std.proofs.lemmas.Int.{ints}
use Rattle.moduli_sets.specs.declared.set_name.SetName.TheVariants.{Pocket, Hall}
use Rattle.moduli_sets.specs.Name.{set_of_name}
use Rattle.syndrome_table.specs.Syndrome.{IsCase, triple_of}
use Rattle.syndrome_table.specs.Entry.{entry_key, error_of}

-- The residues of 42 are 3 and 12; with the error 1 in channel 0 they are 4 and 12, those of 147, and of -48 within
-- the 195 integers from -97 to 97. The right integer lies 90 above: 90 leaves 10, 5 and 14.
from_below : triple_of (set_of_name Pocket) (pos 42) (negsuc 47) ≡ 10 ∷ 5 ∷ 14 ∷ []
from_below = refl

from_below_is_a_case : IsCase (set_of_name Pocket) 0 1 (pos 42) (negsuc 47)
from_below_is_a_case = record {
  channel = omega arith;
  error = omega arith;
  below = omega arith;
  in_range = record { low = omega (arith, ints); high = omega (arith, ints) };
  window = record { low = omega (arith, ints); high = omega (arith, ints) };
  residues = refl;
}

-- The residues of -60 are 5 and 0; with the same error they are 6 and 0, those of 45. The right integer lies 105 below:
-- -105 leaves 7, 14 and 9. So one channel and one error have two triples.
from_above : triple_of (set_of_name Pocket) (negsuc 59) (pos 45) ≡ 7 ∷ 14 ∷ 9 ∷ []
from_above = refl

from_above_is_a_case : IsCase (set_of_name Pocket) 0 1 (negsuc 59) (pos 45)
from_above_is_a_case = record {
  channel = omega arith;
  error = omega arith;
  below = omega arith;
  in_range = record { low = omega (arith, ints); high = omega (arith, ints) };
  window = record { low = omega (arith, ints); high = omega (arith, ints) };
  residues = refl;
}

-- With the error 1 in channel 1 the residues of 42 are 3 and 13, those of -62: 104 leaves 8, 2 and 9.
second_from_below : triple_of (set_of_name Pocket) (pos 42) (negsuc 61) ≡ 8 ∷ 2 ∷ 9 ∷ []
second_from_below = refl

second_from_below_is_a_case : IsCase (set_of_name Pocket) 1 1 (pos 42) (negsuc 61)
second_from_below_is_a_case = record {
  channel = omega arith;
  error = omega arith;
  below = omega arith;
  in_range = record { low = omega (arith, ints); high = omega (arith, ints) };
  window = record { low = omega (arith, ints); high = omega (arith, ints) };
  residues = refl;
}

-- Those of -60 are 5 and 1, those of 31: -91 leaves 5, 11 and 4.
second_from_above : triple_of (set_of_name Pocket) (negsuc 59) (pos 31) ≡ 5 ∷ 11 ∷ 4 ∷ []
second_from_above = refl

second_from_above_is_a_case : IsCase (set_of_name Pocket) 1 1 (negsuc 59) (pos 31)
second_from_above_is_a_case = record {
  channel = omega arith;
  error = omega arith;
  below = omega arith;
  in_range = record { low = omega (arith, ints); high = omega (arith, ints) };
  window = record { low = omega (arith, ints); high = omega (arith, ints) };
  residues = refl;
}

-- The vector 4 0 8 1 0 has the information residues of 30, and its redundant residues less those of 30 are 10, 5 and 8.
-- That is the triple of -97 with the error 2 in channel 1, whose residues are then those of 85, 182 above. But 182 below
-- 30 is -152, out of range: the vector is damaged. A table that keeps channel and error alone would mend the residue 0
-- to 13 and find 43, in range.
out_of_range : triple_of (set_of_name Pocket) (negsuc 96) (pos 85) ≡ 10 ∷ 5 ∷ 8 ∷ []
out_of_range = refl

out_of_range_is_a_case : IsCase (set_of_name Pocket) 1 2 (negsuc 96) (pos 85)
out_of_range_is_a_case = record {
  channel = omega arith;
  error = omega arith;
  below = omega arith;
  in_range = record { low = omega (arith, ints); high = omega (arith, ints) };
  window = record { low = omega (arith, ints); high = omega (arith, ints) };
  residues = refl;
}

vector_of_no_case : triple_of (set_of_name Pocket) (negsuc 151) (pos 30) ≡ 10 ∷ 5 ∷ 8 ∷ []
vector_of_no_case = refl

-- The entry of the first row: 6 times 15 below. -90 leaves 1 by 13, and 10 * 65536 * 65536 + 5 * 65536 + 14 is its key.
error_of_entry : error_of (set_of_name Pocket) (record { first = 10; second = 5; third = 14; times = 6; channel = 0; below = true }) ≡ 1
error_of_entry = refl

key_of_entry : entry_key (record { first = 10; second = 5; third = 14; times = 6; channel = 0; below = true }) ≡ 42950000654
key_of_entry = refl

-- With an even product there is one integer more below zero than above: information modulus 4, B = 1, the integers -1
-- to 2. The error 3 of -1, whose residue is 3, leads to 2 alone, 3 above: 5, 7 and 9 leave 2, 4 and 6 of -3.
even_product : triple_of (record { moduli = 4 ∷ 5 ∷ 7 ∷ 9 ∷ []; info = 1 }) (negsuc 0) (pos 2) ≡ 2 ∷ 4 ∷ 6 ∷ []
even_product = refl

-- the most steps of a decoding on two sets
most_steps_on_pocket : 2 * (set_of_name Pocket).info + 24 ≡ 28
most_steps_on_pocket = refl

most_steps_on_hall : 2 * (set_of_name Hall).info + 24 ≡ 34
most_steps_on_hall = refl
