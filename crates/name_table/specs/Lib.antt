pub use Rattle.plain_text.specs.Lookup
pub mod Entries
