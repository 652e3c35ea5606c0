pub mod Coverage
pub mod Entries
pub mod Linked
pub mod Runs
pub mod Whole
