-- What a lane keeps true.
use Rattle.std.specs.Prelude.{◌≡◌, ℕ, ◌<◌, List, length, slice_index, All}
use Rattle.moduli_sets.specs.Set.{ModuliSet}

-- the channel is one of the set, the lane computes by its modulus, and each place holds a residue
pub record IsConsistent (modulus : ℕ) (set : ModuliSet) (channel : ℕ) (registers scratch words : List ℕ) : Type 0 where
  pub channel_in : channel < length set.moduli
  pub modulus_is : slice_index set.moduli channel ≡ modulus
  pub sixteen : length registers ≡ 16
  pub eight : length scratch ≡ 8
  pub registers_below : All (λ x. x < slice_index set.moduli channel) registers
  pub scratch_below : All (λ x. x < slice_index set.moduli channel) scratch
  pub words_below : All (λ x. x < slice_index set.moduli channel) words
