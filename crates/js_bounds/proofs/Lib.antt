pub mod Few
pub mod LeftLow
pub mod Low
pub mod LowTexts
pub mod Unmarked
pub mod Whole
