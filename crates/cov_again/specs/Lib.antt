pub mod Laws
pub mod Replaced
