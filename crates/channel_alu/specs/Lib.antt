pub mod Modulus
pub mod ModulusLaws
pub use Rattle.number_theory.specs.Residue
