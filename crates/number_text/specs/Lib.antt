pub use Rattle.plain_text.specs.Digits
pub use Rattle.plain_text.specs.Words
pub mod Lines
pub mod Input
