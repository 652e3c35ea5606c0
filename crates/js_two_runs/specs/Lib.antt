pub mod Pairs
pub mod TwoCalls
pub mod TwoHeaps
pub mod TwoOperations
pub mod TwoRuns
