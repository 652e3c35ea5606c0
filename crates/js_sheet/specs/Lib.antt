pub mod Meeting
pub mod Sheets
pub mod Fault
pub mod Ways
pub mod Stands
pub mod Openings
pub mod Pairs
pub mod Ascending
