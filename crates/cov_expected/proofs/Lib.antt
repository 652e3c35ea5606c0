pub mod Texts
pub mod Ordered
mod Keys
mod Read
mod Data
pub mod Values
mod Files
pub mod Changed
mod Ticks
