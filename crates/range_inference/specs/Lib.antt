pub use Rattle.name_check.specs.Names
pub use Rattle.number_theory.specs.Division
pub use Rattle.number_theory.specs.Interval as ProductInterval
pub mod Bound
pub mod Demands
pub mod Interval
pub mod Operators
pub mod Outcome
pub mod Table
pub mod Watched
