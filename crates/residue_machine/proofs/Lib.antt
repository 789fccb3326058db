pub mod ActLemmas
pub mod BenchLemmas
mod FaultyRunLemmas
pub mod OperandLemmas
pub mod PutLemmas
pub mod Rows
pub mod RunLemmas
pub mod StepLemmas
pub mod TraceLemmas
