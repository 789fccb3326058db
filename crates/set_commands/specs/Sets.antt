-- What the commands `encode` and `set` write.
use Rattle.std.specs.Prelude.{ℕ, ℤ, pos, neg_ℤ, List, [], ◌∷◌, ◌++◌, codes}
use Rattle.std.specs.Fmt.{decimal, signed_decimal}
use Rattle.moduli_sets.specs.Set.{ModuliSet, range_bound}
use Rattle.moduli_sets.specs.Vector.{vector_of}
use Rattle.number_text.specs.Lines.{line}
use Rattle.job_endings.specs.Numbers.{numbers_text}

-- the residues of an integer
abbrev pub encode_lines : ModuliSet → ℤ → List (List ℕ)
encode_lines set x = line (numbers_text (vector_of set.moduli x)) ∷ []

abbrev pub moduli_line : ModuliSet → List ℕ
moduli_line set = line (codes "moduli " ++ numbers_text set.moduli)

abbrev pub information_line : ModuliSet → List ℕ
information_line set = line (codes "information " ++ decimal set.info)

abbrev pub range_line : ModuliSet → List ℕ
range_line set =
    line (codes "range " ++ signed_decimal (neg_ℤ (pos (range_bound set))) ++ codes ".." ++ signed_decimal (pos (range_bound set)))

-- the moduli of a set, the number of its information moduli, and its range
abbrev pub set_lines : ModuliSet → List (List ℕ)
set_lines set = moduli_line set ∷ (information_line set ∷ (range_line set ∷ []))
