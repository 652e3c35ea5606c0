pub mod Laws
pub mod Programs
pub mod Rewritten
pub mod Settings
pub mod Suits
