pub mod SourcePath
pub mod Sent
pub mod Remapped
pub mod Answer
pub mod Laws
pub mod Rows
pub mod private
