pub mod Ended
pub mod Floors
pub mod Heights
pub mod Opening
