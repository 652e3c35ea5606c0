pub mod Numbers
pub mod Pieces
pub mod Lines
pub mod Digits
pub mod Next
pub mod Order
pub mod Fit
