pub use Rattle.number_theory.specs.Residue
pub use Rattle.number_theory.specs.Coprime
pub use Rattle.moduli_sets.specs.Set
pub use Rattle.moduli_sets.specs.Moduli
pub use Rattle.fault_book.specs.Book
pub mod Meaning
pub mod Lane
pub mod Invariant
