pub mod CoprimeLemmas
pub mod IntervalLemmas
pub mod InverseLemmas
pub mod QuotientLemmas
pub mod RemainderLemmas
pub mod ResidueLemmas
