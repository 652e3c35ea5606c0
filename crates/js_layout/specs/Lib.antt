pub mod Tokens
pub mod Neat
pub mod Unplaced
pub mod Layout
pub mod Printable
pub mod Laws
