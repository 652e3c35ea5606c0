pub mod Whole
pub mod private
