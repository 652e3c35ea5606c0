pub mod Steps
pub mod Lists
pub mod Printing
pub mod Again
