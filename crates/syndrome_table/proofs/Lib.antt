pub mod WideLemmas
pub mod CaseLemmas
pub mod VerdictLemmas
pub mod SearchLemmas
pub mod ReadingLemmas
pub mod ShiftLemmas
pub mod CofactorLemmas
pub mod FilledLemmas
pub mod RealLemmas
pub mod BuildLemmas
pub mod EntryLemmas
mod Rows
