pub mod Held
pub mod Shifted
pub mod Unreferenced
