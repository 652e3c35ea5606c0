pub mod Asked
pub mod Exec
pub mod Laws
pub mod Loaded
pub mod Meant
pub mod private
pub mod Session
