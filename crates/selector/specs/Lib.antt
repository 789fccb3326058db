pub use Rattle.source_tree.specs.Scope
pub use Rattle.range_inference.specs.Interval
pub use Rattle.machine_table.specs.Faults as ObjectFaults
pub mod Layout
pub mod Factors
pub mod Expressions
pub mod Statements
pub mod Depth
pub mod Programs
pub mod Refusals
pub mod Laws
