pub mod Does
pub mod Rows
