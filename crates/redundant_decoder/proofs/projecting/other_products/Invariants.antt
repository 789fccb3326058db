use Rattle.std.proofs.Common.{◌≡◌, ℕ, ◌<◌, length, slice_index}
use Rattle.std.specs.List.{remove}
use Rattle.number_theory.specs.Coprime.{product}
use Rattle.moduli_sets.specs.Moduli.{set_of}
use Rattle.redundant_decoder.proofs.projecting.other_products.Given as goal

-- below i the products are found
abbrev pub invariant-loop-i : goal.invariant-loop-i
invariant-loop-i l = record {
  size : length l.products ≡ 12;
  found : (k : ℕ) → k < l.i → slice_index l.products k ≡ product (remove (set_of l.set).moduli k);
}
