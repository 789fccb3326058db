-- What an entry of the table stands for.
use Rattle.std.specs.Prelude.{ℕ, ℤ, Bool, pos, neg_ℤ, ◌*◌, ◌+◌, ◌/◌, ◌*ℤ◌, List, [], ◌∷◌, slice_index, if◌then◌else◌}
use Rattle.number_theory.specs.Residue.{residue}
use Rattle.moduli_sets.specs.Set.{ModuliSet, information_product}
use Rattle.syndrome_table.specs.declared.table.Entry.{Entry}

-- its three redundant residues
abbrev pub entry_triple : Entry → List ℕ
entry_triple entry = entry.first ∷ entry.second ∷ entry.third ∷ []

-- three residues as one number, in their order
abbrev pub key_of : List ℕ → ℕ
key_of t = (slice_index t 0 * 65536 + slice_index t 1) * 65536 + slice_index t 2

-- the number by which the entries are sorted and searched
abbrev pub entry_key : Entry → ℕ
entry_key entry = key_of (entry_triple entry)

-- the product of the information moduli but that of channel i
abbrev pub cofactor : ModuliSet → ℕ → ℕ
cofactor set i = information_product set / slice_index set.moduli i

-- so many above, or so many below, which are negative
abbrev pub signed : ℕ → Bool → ℤ
signed times below = if below then neg_ℤ (pos times) else pos times

-- how many cofactors the wrong integer lies above the right one, negative where it lies below
abbrev pub times_of : Entry → ℤ
times_of entry = signed entry.times entry.below

-- its error: the residue of its shift, so many cofactors, by the modulus of its channel
abbrev pub error_of : ModuliSet → Entry → ℕ
error_of set entry = residue (times_of entry *ℤ pos (cofactor set entry.channel)) (slice_index set.moduli entry.channel)
