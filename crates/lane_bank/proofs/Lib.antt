pub mod BankLemmas
mod Rows
