use Rattle.std.proofs.Common.{◌≡◌, ℕ, ◌/◌, ◌%◌, ◌<◌, length, take}
use Rattle.number_theory.specs.Coprime.{product}
use Rattle.number_theory.specs.Residue.{IsNumberOf}
use Rattle.moduli_sets.specs.Moduli.{set_of}
use Rattle.mixed_radix.specs.Digits.{digits}
use Rattle.mixed_radix.specs.Chosen.{entries_at}
use Rattle.mixed_radix.proofs.digits.digit.Given as goal

-- the residue of what is left of the number once n digits are taken away
abbrev pub invariant-loop-n : goal.invariant-loop-n
invariant-loop-n l = record {
  small : l.rest < l.modulus;
  left : (n : ℕ) → IsNumberOf (entries_at l.which (set_of l.set).moduli) (entries_at l.which l.v) n → l.found ≡ take (length l.found) (digits (entries_at l.which (set_of l.set).moduli) n) → l.rest ≡ (n / product (take l.n (entries_at l.which (set_of l.set).moduli))) % l.modulus;
}
