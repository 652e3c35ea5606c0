pub mod Counters
pub mod Prelude
