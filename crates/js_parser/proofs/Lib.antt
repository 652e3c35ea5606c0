pub mod Stopping
pub mod Recalling
pub mod LastTurn
pub mod Searching
pub mod Offsets
pub mod Standing
pub mod Advancing
