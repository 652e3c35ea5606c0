-- What the contracts of private functions name: no reader has to believe it.
pub mod Compiled
pub mod Push
pub mod Seen
