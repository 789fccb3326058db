-- The set that a value of `Moduli` is.
use Rattle.std.specs.Prelude.{take}
use Rattle.moduli_sets.specs.declared.moduli.Moduli.{Moduli}
use Rattle.moduli_sets.specs.Set.{ModuliSet}

abbrev pub set_of : Moduli → ModuliSet
set_of value = record { moduli = take value.count value.moduli; info = value.info }
