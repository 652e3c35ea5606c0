pub mod ByFile
pub mod ByMember
pub mod Counted
pub mod Escapes
pub mod Formed
pub mod Order
pub mod Piece
