pub mod Digits
pub mod Lines
pub mod Lookup
pub mod Words
