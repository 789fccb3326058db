pub use Rattle.plain_text.specs.Digits
pub use Rattle.number_theory.specs.Residue
pub use Rattle.moduli_sets.specs.Moduli
pub use Rattle.moduli_sets.specs.Set
pub use Rattle.moduli_sets.specs.Name
pub mod Numbers
pub mod Operands
pub mod Options
