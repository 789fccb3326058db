-- Numbers that are a product of information moduli. A quotient by such a number is scaled channel by channel.
use Rattle.std.specs.Prelude.{ℕ, zero, suc, ◌+◌, ◌%◌, ◌/◌, ℤ, pos, negsuc, ◌&&◌, nat_eq, nat_le, List, [], ◌∷◌, ◌++◌, map, length, replicate, slice_index, if◌then◌else◌}
use Rattle.number_theory.specs.Coprime.{product}
use Rattle.moduli_sets.specs.Set.{ModuliSet, information}

-- the most factors by which a number is scaled
abbrev pub most_factors : ℕ
most_factors = 8

-- how often c can be divided by m with nothing left, at most n times
abbrev pub times : ℕ → ℕ → ℕ → ℕ
times zero m c = 0
times (suc n) m c = if nat_eq (c % m) 0 then suc (times n m (c / m)) else 0

-- the channels from s on, ascending, each as often as its modulus divides c
abbrev pub channels_from : ℕ → List ℕ → ℕ → List ℕ
channels_from s [] c = []
channels_from s (m ∷ ms) c = replicate (times most_factors m c) s ++ channels_from (s + 1) ms c

-- the product of the moduli of some channels
abbrev pub product_at : ModuliSet → List ℕ → ℕ
product_at set channels = product (map (λ s. slice_index set.moduli s) channels)

-- The information channels, ascending, whose moduli have the product c; none where c is no product of one to eight of them.
-- No other channels have it, since the moduli are pairwise coprime.
abbrev pub channels_of : ModuliSet → ℤ → List ℕ
channels_of set (pos c) =
    let channels = channels_from 0 (information set) c in
    if nat_eq (product_at set channels) c && nat_le (length channels) most_factors then channels else []
channels_of set (negsuc c) = []
