pub use Rattle.source_lexer.specs.Scan
pub use Rattle.source_tree.specs.Meaning
pub use Rattle.source_tree.specs.Numbers
pub use Rattle.name_check.specs.Names
pub use Rattle.range_inference.specs.Demands
pub use Rattle.source_parser.specs.Prefixes
pub use Rattle.source_parser.specs.Parsed
pub mod Reading
