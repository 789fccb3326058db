pub mod ToldLemmas
pub mod DivisionLoops
pub mod DivisionSigns
pub mod ToldInstructions
pub mod ToldRuns
pub mod PerformLemmas
mod RowsOfActs
pub mod PlanEnds
mod PlanRows
pub mod PlanSteps
