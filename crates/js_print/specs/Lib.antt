pub mod Parts
pub mod Again
