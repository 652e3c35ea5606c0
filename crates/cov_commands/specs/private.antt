pub mod HandedOn
pub mod Performed
pub mod Shown
pub mod Written
