pub mod Recent
pub mod Refused
pub mod Turn
pub mod Further
