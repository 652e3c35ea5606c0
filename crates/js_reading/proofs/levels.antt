pub mod Allowed
pub mod Lasting
pub mod Levels
pub mod Makings
pub mod OnlyStatements
pub mod Tightness
