pub mod Halts
pub mod Iteration
pub mod Native
pub mod private
