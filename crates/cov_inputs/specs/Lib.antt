pub mod Inputs
pub mod Laws
pub mod V8
pub mod private
