pub mod finding
pub mod goals
pub mod heights
pub mod levels
pub mod placed
pub mod refusing
pub mod sentences
