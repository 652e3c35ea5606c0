pub mod Headline
pub mod Hexadecimal
mod InputMaps
pub mod Lists
pub mod Named
pub mod ReadAgain
pub mod Spelt
