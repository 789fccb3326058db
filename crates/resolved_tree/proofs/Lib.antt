mod ArgumentLemmas
pub mod Equations
mod ProcedureLemmas
mod Rooms
mod Rows
mod SameCalls
mod SameNames
mod SamePrograms
mod SameStart
mod SameSteps
mod SameValues
mod StepLemmas
mod SymbolLemmas
mod VariableLemmas
mod WalkLemmas
