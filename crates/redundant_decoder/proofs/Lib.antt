pub mod DifferenceLemmas
pub mod DistanceLemmas
pub mod LawLemmas
pub mod PartLemmas
pub mod PlaceLemmas
pub mod ProjectionLemmas
mod Rows
pub mod VerdictLemmas
