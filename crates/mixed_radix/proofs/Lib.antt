pub mod ChosenLemmas
pub mod DigitLemmas
pub mod GarnerLemmas
mod Rows
pub mod SignLemmas
pub mod ValueLemmas
