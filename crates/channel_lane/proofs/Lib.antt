pub mod LaneLemmas
pub mod MeaningLemmas
pub mod ResidueSteps
