pub mod Written
pub mod Tokens
pub mod Laws
