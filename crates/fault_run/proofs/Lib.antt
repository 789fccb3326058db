pub mod ByChannel
pub mod Kept
pub mod RightLanes
mod Rows
pub mod ShownRuns
pub mod Tellers
pub mod WholeRuns
