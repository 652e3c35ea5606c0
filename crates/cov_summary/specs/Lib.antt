pub mod Lines
pub mod Shortfall
pub mod Sums
pub mod Totals
