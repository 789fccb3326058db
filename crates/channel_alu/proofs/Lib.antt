pub mod CarryLemmas
pub mod ModulusForms
pub mod ResidueForms
mod Rows
