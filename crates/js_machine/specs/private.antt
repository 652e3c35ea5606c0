-- What the contracts of private functions name: no reader has to believe it.
pub mod AtOnce
pub mod Carries
pub mod Config
pub mod Frames
pub mod Moves
pub mod Opening
pub mod Runs
pub mod Scopes
pub mod State
pub mod Weight
