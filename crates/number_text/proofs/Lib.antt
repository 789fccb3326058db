pub mod InputLemmas
mod Rows
