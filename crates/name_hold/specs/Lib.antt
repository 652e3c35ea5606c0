pub mod Hoists
