pub mod FileNames
pub mod IntegerLemmas
pub mod OperandLemmas
pub mod OptionLemmas
pub mod ResidueLemmas
mod Rows
pub mod ShortNumbers
pub mod WordsAt
