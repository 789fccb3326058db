pub use Rattle.number_theory.specs.Residue
pub use Rattle.moduli_sets.specs.Set
pub use Rattle.moduli_sets.specs.Moduli
pub use Rattle.fault_book.specs.Book
pub use Rattle.channel_lane.specs.Meaning
pub use Rattle.channel_lane.specs.Lane
pub mod Bank
