mod BookLemmas
pub mod ColumnLemmas
mod EntryLemmas
mod FaultTextRows
mod NumberWords
mod ReadLemmas
mod ScheduleLemmas
mod ScheduleTextRows
