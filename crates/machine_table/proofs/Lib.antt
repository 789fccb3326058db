mod FaultLemmas
mod RowsFaults
mod RowsSteps
pub mod SoundLemmas
