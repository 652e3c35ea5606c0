pub mod Reached
pub mod Unaccepted
