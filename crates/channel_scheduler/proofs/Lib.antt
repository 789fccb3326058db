pub mod QueueLemmas
pub mod CatchingLemmas
pub mod TimeLemmas
pub mod KeepingLemmas
pub mod CountLemmas
pub mod PlaceLemmas
pub mod StandingLemmas
pub mod TurnLemmas
pub mod RunLemmas
pub mod LoopLemmas
pub mod MomentLemmas
pub mod TurnsEnd
mod JournalRows
