pub use Rattle.resolved_tree.specs.Meaning
pub use Rattle.outside.specs.Sink
pub mod Ends
pub mod Follows
pub mod Words
