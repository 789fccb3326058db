pub mod Invariant
pub mod Moduli
pub mod Name
pub mod Set
pub mod Vector
pub use Rattle.number_theory.specs.Coprime
pub use Rattle.number_theory.specs.Residue
