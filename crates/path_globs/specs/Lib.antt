pub mod NormalForm
pub mod Specifier
pub mod Beside
pub mod Wildcards
pub mod Source
pub mod Rows
pub mod private
