use Rattle.std.proofs.Common.{◌≡◌, ℕ, length, take}
use Rattle.number_theory.specs.Residue.{IsNumberOf}
use Rattle.moduli_sets.specs.Moduli.{set_of}
use Rattle.mixed_radix.specs.Digits.{digits}
use Rattle.mixed_radix.specs.Chosen.{entries_at}
use Rattle.mixed_radix.proofs.digits.digits_of.Given as goal

-- the first n digits
abbrev pub invariant-loop-n : goal.invariant-loop-n
invariant-loop-n l = record {
  count : length l.digits ≡ l.n;
  front : (n : ℕ) → IsNumberOf (entries_at l.which (set_of l.set).moduli) (entries_at l.which l.v) n → l.digits ≡ take l.n (digits (entries_at l.which (set_of l.set).moduli) n);
}
