-- Numbers that words write. A word is its bytes.
use Rattle.std.specs.Prelude.{ℕ, ℤ, pos, neg_ℤ, ◌&&◌, Bool, not, nat_le, nat_lt, int_lt, List, [], ◌∷◌, length, Option, Some, None, option_and_then, if◌then◌else◌}
use Rattle.std.specs.Option.{option_map}
use Rattle.std.specs.List.{list_all}
use Rattle.std.specs.Char.{is_ascii_digit}
use Rattle.plain_text.specs.Digits.{unsigned_part, value_of_digits, value_of_integer}
use Rattle.moduli_sets.specs.declared.set_name.SetName.{SetName}
use Rattle.moduli_sets.specs.Set.{ModuliSet, range_bound}
use Rattle.moduli_sets.specs.Name.{set_of_name}

-- one digit or more, and so many at the most
abbrev pub is_short_number : ℕ → List ℕ → Bool
is_short_number most word = nat_le 1 (length word) && (nat_le (length word) most && list_all is_ascii_digit word)

-- an optional minus and 1 to 39 digits
abbrev pub is_short_integer : List ℕ → Bool
is_short_integer word = is_short_number 39 (unsigned_part word)

abbrev pub is_in_range : ModuliSet → ℤ → Bool
is_in_range set x = not (int_lt x (neg_ℤ (pos (range_bound set)))) && not (int_lt (pos (range_bound set)) x)

-- the integer in range that a word writes
abbrev pub integer_in_range : SetName → List ℕ → Option ℤ
integer_in_range name word =
    if is_short_integer word && is_in_range (set_of_name name) (value_of_integer word) then Some (value_of_integer word) else None

-- the residue that a word writes: 1 to 10 digits with a value below the modulus
abbrev pub residue_in : ℕ → List ℕ → Option ℕ
residue_in modulus word =
    if is_short_number 10 word && nat_lt (value_of_digits word) modulus then Some (value_of_digits word) else None

-- one residue for each modulus
abbrev pub residues_in : List ℕ → List (List ℕ) → Option (List ℕ)
residues_in [] [] = Some []
residues_in [] (word ∷ words) = None
residues_in (modulus ∷ moduli) [] = None
residues_in (modulus ∷ moduli) (word ∷ words) =
    option_and_then (λ residue. option_map (λ residues. residue ∷ residues) (residues_in moduli words)) (residue_in modulus word)

-- a limit of steps: 1 to 10 digits with a value of 1 to 1,000,000,000
abbrev pub steps_in : List ℕ → Option ℕ
steps_in word =
    if is_short_number 10 word && (nat_le 1 (value_of_digits word) && nat_le (value_of_digits word) 1000000000)
    then Some (value_of_digits word) else None
