pub mod Groups
pub mod Lengths
pub mod Onto
pub mod Order
pub mod Orders
pub mod Sums
pub mod Table
