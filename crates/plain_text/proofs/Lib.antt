pub mod DigitValues
pub mod DigitPrefix
pub mod LineCounts
pub mod WholeNumbers
pub mod WordLemmas
mod Rows
