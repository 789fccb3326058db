pub mod EndingLemmas
pub mod FileLemmas
mod NumberTexts
mod Rows
