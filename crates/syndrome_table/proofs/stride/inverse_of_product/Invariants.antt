use Rattle.std.proofs.Common.{◌≡◌, ◌*◌, ◌%◌, ◌<◌, take}
use Rattle.number_theory.specs.Coprime.{product}
use Rattle.moduli_sets.specs.Moduli.{set_of}
use Rattle.syndrome_table.proofs.stride.inverse_of_product.Given as goal

-- it is the inverse of the product of the moduli before j
abbrev pub invariant-loop-j : goal.invariant-loop-j
invariant-loop-j l = (l.inverse < l.modulus) × ((product (take l.j (set_of l.set).moduli) * l.inverse) % l.modulus ≡ 1)
