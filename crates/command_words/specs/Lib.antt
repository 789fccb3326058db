pub use Rattle.moduli_sets.specs.Set
pub use Rattle.moduli_sets.specs.Name
pub use Rattle.word_readers.specs.Numbers
pub use Rattle.word_readers.specs.Operands
pub use Rattle.word_readers.specs.Options
pub mod Words
