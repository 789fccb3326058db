pub use Rattle.plain_text.specs.Digits
pub use Rattle.plain_text.specs.Lines
pub mod Tokens
pub mod Scan
pub mod Prefixes
pub mod Placed
pub mod Steps
