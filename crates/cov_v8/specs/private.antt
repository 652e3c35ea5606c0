pub mod Table
pub mod Pending
pub mod Inside
pub mod Steps
