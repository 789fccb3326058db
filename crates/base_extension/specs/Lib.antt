pub use Rattle.number_theory.specs.Residue
pub use Rattle.moduli_sets.specs.Set
pub use Rattle.moduli_sets.specs.Moduli
pub use Rattle.mixed_radix.specs.Digits
pub use Rattle.mixed_radix.specs.Chosen
