pub mod Many
pub mod Texts
pub mod Parts
