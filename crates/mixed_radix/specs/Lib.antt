pub use Rattle.number_theory.specs.Residue
pub use Rattle.number_theory.specs.Coprime
pub use Rattle.moduli_sets.specs.Set
pub use Rattle.moduli_sets.specs.Moduli
pub use Rattle.moduli_sets.specs.Vector
pub mod Digits
pub mod Chosen
