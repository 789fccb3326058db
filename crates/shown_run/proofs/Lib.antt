pub mod Joining
pub mod NearestLemmas
pub mod PlainLemmas
pub mod Rows
