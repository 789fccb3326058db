mod HeldLemmas
pub mod LookupLemmas
pub mod MirrorLemmas
mod Rows
