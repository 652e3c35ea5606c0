pub mod Fault
pub mod JsonSummary
pub mod Lcov
pub mod Percent
pub mod Piece
pub mod Table
