pub mod Marked
pub mod Laws
pub mod Worked
