pub mod LeftPlaced
pub mod Placed
pub mod PlacedTexts
pub mod Unhinted
