pub mod Environment
pub mod Heap
pub mod Object
pub mod private
