-- Worked rows of distances and verdicts, computed from the definitions.
use Rattle.std.specs.Prelude.{◌≡◌, [], ◌∷◌, true, false, Some, None, pos, refl}
use Rattle.moduli_sets.specs.declared.set_name.SetName.TheVariants.{Pocket}
use Rattle.moduli_sets.specs.Name.{set_of_name}
use Rattle.moduli_sets.specs.Vector.{vector_of}
use Rattle.number_theory.specs.Distance.{distance}
use Rattle.redundant_decoder.specs.Nearest.{different_places, part, without}

-- the vector of 42 with a wrong residue in channel 4
one_wrong : different_places None (vector_of (set_of_name Pocket).moduli (pos 42)) (3 ∷ 12 ∷ 10 ∷ 8 ∷ 9 ∷ []) ≡ 4 ∷ []
one_wrong = refl

-- and with wrong ones in channels 0 and 3
two_wrong : different_places None (vector_of (set_of_name Pocket).moduli (pos 42)) (4 ∷ 12 ∷ 10 ∷ 0 ∷ 4 ∷ []) ≡ 0 ∷ 3 ∷ []
two_wrong = refl

-- of which an erased channel counts for nothing, and the other keeps its number
second_erased : different_places (Some 3) (vector_of (set_of_name Pocket).moduli (pos 42)) (4 ∷ 12 ∷ 10 ∷ 0 ∷ 4 ∷ []) ≡ 0 ∷ []
second_erased = refl

first_erased : different_places (Some 0) (vector_of (set_of_name Pocket).moduli (pos 42)) (4 ∷ 12 ∷ 10 ∷ 0 ∷ 4 ∷ []) ≡ 3 ∷ []
first_erased = refl

-- no channel has number 5
none_erased : different_places (Some 5) (vector_of (set_of_name Pocket).moduli (pos 42)) (4 ∷ 12 ∷ 10 ∷ 0 ∷ 4 ∷ []) ≡ 0 ∷ 3 ∷ []
none_erased = refl

-- the vectors of 42 and 61 differ in four places: three without channel 3
distance_of_two_integers : distance (vector_of (set_of_name Pocket).moduli (pos 42)) (vector_of (set_of_name Pocket).moduli (pos 61)) ≡ 4
distance_of_two_integers = refl

distance_without_one : distance (without (Some 3) (vector_of (set_of_name Pocket).moduli (pos 42))) (without (Some 3) (vector_of (set_of_name Pocket).moduli (pos 61))) ≡ 3
distance_without_one = refl

-- what is kept of a list, and what isn't
part_of_five : part (true ∷ false ∷ false ∷ true ∷ true ∷ []) (3 ∷ 12 ∷ 10 ∷ 8 ∷ 4 ∷ []) ≡ 3 ∷ 8 ∷ 4 ∷ []
part_of_five = refl
