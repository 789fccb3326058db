pub use Rattle.source_tree.specs.Numbers
pub mod Held
pub mod Names
pub mod Reported
pub mod Ties
