pub mod Files
pub mod Numberless
pub mod Pieces
pub mod Refiled
pub mod Renamed
pub mod Unnumbered
