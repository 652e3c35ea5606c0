pub mod Constructs
pub mod Part
pub mod Plain
pub mod Walk
