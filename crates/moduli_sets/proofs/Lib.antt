mod Rows
pub mod SetLemmas
pub mod VectorLemmas
