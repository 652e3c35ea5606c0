pub mod Counters
pub mod Opened
pub mod Programs
pub mod Trees
pub mod Unchanged
pub mod Worlds
