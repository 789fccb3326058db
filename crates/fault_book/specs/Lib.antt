pub use Rattle.number_theory.specs.Distance
pub use Rattle.plain_text.specs.Digits
pub use Rattle.plain_text.specs.Words
pub mod Book
pub mod FaultText
pub mod Invariant
pub mod ScheduleText
pub mod Turns
