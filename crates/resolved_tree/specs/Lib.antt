pub use Rattle.source_tree.specs.Meaning as SourceMeaning
pub use Rattle.name_check.specs.Held
pub use Rattle.name_table.specs.Entries
pub use Rattle.range_inference.specs.Demands
pub mod Meaning
pub mod Resolution
pub mod Sameness
pub mod Slots
