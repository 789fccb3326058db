use Rattle.std.proofs.Common.{◌≡◌, drop}
use Rattle.number_theory.specs.Coprime.{product}
use Rattle.moduli_sets.specs.Moduli.{set_of}
use Rattle.mixed_radix.specs.Chosen.{entries_at}
use Rattle.redundant_decoder.proofs.projecting.product_of.Given as goal

-- the product of the chosen moduli from n on
abbrev pub invariant-loop-n : goal.invariant-loop-n
invariant-loop-n l = l.product ≡ product (drop l.n (entries_at l.which (set_of l.set).moduli))
