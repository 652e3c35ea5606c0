pub mod Data
pub mod Digits
pub mod Laws
pub mod Name
pub mod Pieces
pub mod Texts
