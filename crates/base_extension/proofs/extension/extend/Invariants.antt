use Rattle.std.proofs.Common.{◌≡◌, ◌%◌, drop}
use Rattle.moduli_sets.specs.Moduli.{set_of}
use Rattle.mixed_radix.specs.Digits.{digits_value}
use Rattle.mixed_radix.specs.Chosen.{entries_at}
use Rattle.base_extension.proofs.extension.extend.Given as goal

-- the residue of the number that the digits from n on write
abbrev pub invariant-loop-n : goal.invariant-loop-n
invariant-loop-n l = l.rest ≡ digits_value (drop l.n (entries_at l.which (set_of l.set).moduli)) (drop l.n l.d) % l.p
