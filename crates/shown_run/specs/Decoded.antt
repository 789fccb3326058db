-- The nearest integer of a vector, as a function. It is never computed.
use Rattle.std.specs.Prelude.{ℕ, zero, suc, ℤ, pos, negsuc, nat_le, Bool, List, Option, Some, None, if◌then◌else◌}
use Rattle.number_theory.specs.Distance.{distance}
use Rattle.moduli_sets.specs.Set.{ModuliSet, range_bound}
use Rattle.moduli_sets.specs.Vector.{vector_of}
use Rattle.redundant_decoder.specs.Nearest.{without}

-- x is within distance t of v; an erased channel counts for nothing
abbrev pub is_close : ℕ → Option ℕ → List ℕ → List ℕ → ℤ → Bool
is_close t erased moduli v x = nat_le (distance (without erased (vector_of moduli x)) (without erased v)) t

-- the first of n, -n, n - 1, .. 0 that is
unfoldable pub first_within : ℕ → Option ℕ → List ℕ → List ℕ → ℕ → Option ℤ
first_within t erased moduli v zero = if is_close t erased moduli v (pos 0) then Some (pos 0) else None
first_within t erased moduli v (suc n) =
    if is_close t erased moduli v (pos (suc n)) then Some (pos (suc n))
    else if is_close t erased moduli v (negsuc n) then Some (negsuc n)
    else first_within t erased moduli v n

-- the nearest integer of v in the range of the set, where there is one
abbrev pub nearest : ℕ → Option ℕ → ModuliSet → List ℕ → Option ℤ
nearest t erased set v = first_within t erased set.moduli v (range_bound set)
