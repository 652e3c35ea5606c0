pub mod Expected
pub mod Told
pub mod Plain
pub mod Laws
