pub mod Halts
pub mod RowsLemmas
pub mod Steps
