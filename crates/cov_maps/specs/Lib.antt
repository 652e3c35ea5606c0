pub mod Located
pub mod Placed
pub mod Zero
pub mod private
