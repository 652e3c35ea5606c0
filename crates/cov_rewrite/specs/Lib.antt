pub mod Blocks
pub mod Laws
pub mod Made
pub mod Numbers
pub mod Site
